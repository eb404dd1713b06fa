-- 01, 'Questions in order': questions 1 to 8, 18 and 28, which find out where the path stands. A no leaves the bytes as they are.
-- Assumes nothing.
use Rattle.std.specs.Prelude.{ℕ, ◌+◌, Bool, not, ◌&&◌, ◌||◌, List, [], ◌∷◌, ◌++◌, eqb, ltb, leb}
use Rattle.standard_path.specs.Meta.{curr_inf, curr_hf, seg0_len, seg1_len, seg2_len}
use Rattle.standard_path.specs.Header.{infos, hops, info_field, hop_field, header_questions, segment_of, segment_start, segment_end}
use Rattle.interface_table.specs.Table.{table_sound}
use Rattle.questions.specs.Questions.{within}
use Rattle.answers.specs.Questions.{Questions}
use Rattle.edition.specs.declared.Edition.{Edition}
use Rattle.edition.specs.Edition.{peering_path, first_peering_hop, peering_hop, peering_questions}
use Rattle.answers.specs.declared.AdvanceError.TheVariants.{HopOutOfBounds, InfoOutOfBounds, InvalidSegmentIndex, SingleHopSegment, SegmentEnd}
use Rattle.answers.specs.declared.StandardRoutingError.TheVariants.{UnsoundTable, HeaderFailed, AdvanceFailed}

-- 1, then 2, 3 and 4: 'Before everything'
abbrev pub before : List ℕ → List ℕ → List ℕ → Questions
before ids states path = (table_sound ids states, UnsoundTable) ∷ within HeaderFailed (header_questions path)

-- ---- the current hop

-- the current hop field and its info field, and the next of each
abbrev pub hop : List ℕ → List ℕ
hop path = hop_field path (curr_hf path)

abbrev pub info : List ℕ → List ℕ
info path = info_field path (curr_inf path)

abbrev pub next_hop : List ℕ → List ℕ
next_hop path = hop_field path (curr_hf path + 1)

abbrev pub next_info : List ℕ → List ℕ
next_info path = info_field path (curr_inf path + 1)

-- its segment
abbrev pub segment : List ℕ → ℕ
segment path = segment_of (seg0_len path) (seg1_len path) (curr_hf path)

-- the first of its segment, and the last
abbrev pub starts : List ℕ → Bool
starts path = eqb (curr_hf path) (segment_start (seg0_len path) (seg1_len path) (segment path))

abbrev pub ends : List ℕ → Bool
ends path = eqb (curr_hf path + 1) (segment_end (seg0_len path) (seg1_len path) (seg2_len path) (segment path))

-- the last of the path
abbrev pub is_final : List ℕ → Bool
is_final path = leb (hops path) (curr_hf path + 1)

-- it is alone in its segment
abbrev pub alone : List ℕ → Bool
alone path = starts path && ends path

-- a peering hop; and the first of the two
abbrev pub is_peering_hop : Edition → List ℕ → Bool
is_peering_hop edition path = peering_hop edition path (curr_hf path)

abbrev pub crosses : Edition → List ℕ → Bool
crosses edition path = first_peering_hop edition path (curr_hf path)

-- it makes a segment change: it ends its segment and not the path. A peering hop makes none
abbrev pub changes : Edition → List ℕ → Bool
changes edition path = not (is_peering_hop edition path) && (ends path && not (is_final path))

-- ---- ingress: 5, 6, 7, 8, 28

abbrev pub ingress_place : Edition → List ℕ → Questions
ingress_place edition path =
    (ltb (curr_hf path) (hops path), AdvanceFailed (HopOutOfBounds (curr_hf path)))
    ∷ (peering_path edition path || not (alone path), AdvanceFailed SingleHopSegment)
    ∷ (eqb (segment path) (curr_inf path), AdvanceFailed (InvalidSegmentIndex (segment path) (curr_inf path)))
    ∷ (ltb (curr_inf path) (infos path), AdvanceFailed (InfoOutOfBounds (curr_inf path)))
    ∷ (not (changes edition path) || ltb (segment path + 1) (infos path), AdvanceFailed (InfoOutOfBounds (segment path + 1)))
    ∷ peering_questions edition path

-- ---- egress: 5, 7, 8, 28, 5 for the next hop, 18

-- the hop and its info field
abbrev pub place_questions : List ℕ → Questions
place_questions path =
    (ltb (curr_hf path) (hops path), AdvanceFailed (HopOutOfBounds (curr_hf path)))
    ∷ (eqb (segment path) (curr_inf path), AdvanceFailed (InvalidSegmentIndex (segment path) (curr_inf path)))
    ∷ (ltb (curr_inf path) (infos path), AdvanceFailed (InfoOutOfBounds (curr_inf path)))
    ∷ []

-- another hop, in this segment or over the peering link
abbrev pub way_questions : Edition → List ℕ → Questions
way_questions edition path =
    (not (is_final path), AdvanceFailed (HopOutOfBounds (curr_hf path + 1)))
    ∷ (crosses edition path || not (ends path), AdvanceFailed SegmentEnd)
    ∷ []

abbrev pub egress_place : Edition → List ℕ → Questions
egress_place edition path = place_questions path ++ (peering_questions edition path ++ way_questions edition path)
