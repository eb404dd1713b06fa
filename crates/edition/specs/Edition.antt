-- 02, F-6: the two editions of the step, and all that they decide differently. In the first, the Rust's, P has no meaning, so that no path
-- is a peering path. The second has the draft's rule. No other file of specs/ goes by cases of the edition.
-- Assumes nothing.
use Rattle.std.specs.Prelude.{ℕ, ◌+◌, Bool, true, false, not, ◌&&◌, ◌||◌, List, [], ◌∷◌, eqb, ltb}
use Rattle.standard_path.specs.Meta.{seg0_len, seg1_len, seg2_len}
use Rattle.fields.specs.Fields.{peering}
use Rattle.standard_path.specs.Header.{infos, info_field}
use Rattle.answers.specs.Questions.{Questions}
use Rattle.answers.specs.declared.AdvanceError.TheVariants.{MisplacedPeering}
use Rattle.answers.specs.declared.StandardRoutingError.TheVariants.{AdvanceFailed}
use Rattle.edition.specs.declared.Edition.{Edition}
use Rattle.edition.specs.declared.Edition.TheVariants.{First, Second}

abbrev pub edition_of : Bool → Edition
edition_of false = First
edition_of true = Second

-- ---- peering paths

-- 'just its first two lengths nonzero'
abbrev pub two_segments : List ℕ → Bool
two_segments path = not (eqb (seg0_len path) 0) && (not (eqb (seg1_len path) 0) && eqb (seg2_len path) 0)

-- '.., P set in both info fields'
unfoldable pub peering_form : List ℕ → Bool
peering_form path = two_segments path && (peering (info_field path 0) && peering (info_field path 1))

abbrev pub peering_path : Edition → List ℕ → Bool
peering_path First path = false
peering_path Second path = peering_form path

-- 'the last hop of the first segment and the first hop of the second are peering hops': the first of them, and both
abbrev pub first_peering_hop : Edition → List ℕ → ℕ → Bool
first_peering_hop edition path hop = peering_path edition path && eqb (hop + 1) (seg0_len path)

abbrev pub peering_hop : Edition → List ℕ → ℕ → Bool
peering_hop edition path hop = peering_path edition path && (eqb (hop + 1) (seg0_len path) || eqb hop (seg0_len path))

-- ---- 28

-- P is set in an info field that is there
abbrev pub flagged : List ℕ → ℕ → Bool
flagged path i = ltb i (infos path) && peering (info_field path i)

-- its rule: not 'when P is set in an info field of a path that is no peering path'
unfoldable pub peering_placed : List ℕ → Bool
peering_placed path = peering_form path || not (flagged path 0 || (flagged path 1 || flagged path 2))

abbrev pub peering_fits : Edition → List ℕ → Bool
peering_fits First path = true
peering_fits Second path = peering_placed path

-- 'second edition only'
abbrev pub peering_questions : Edition → List ℕ → Questions
peering_questions First path = []
peering_questions Second path = (peering_placed path, AdvanceFailed MisplacedPeering) ∷ []
