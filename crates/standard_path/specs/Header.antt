-- 01, 'types.rs, layout.rs', 'view.rs' and 'Before everything': the counts of a path's header, its parts, questions 2 to 4, and the
-- segment that a hop lies in.
-- Assumes nothing.
use Rattle.std.specs.Prelude.{ℕ, ◌+◌, Bool, cond, List, [], ◌∷◌, eqb, ltb, leb, length, take, drop}
use Rattle.std.specs.Prelude.{Option, Some, None, Result, Ok, Err}
use Rattle.questions.specs.Questions.{Questions, asks}
use Rattle.fields.specs.Layout.{info_count, hop_count, info_offset, hop_offset}
use Rattle.standard_path.specs.Meta.{seg0_len, seg1_len, seg2_len}
use Rattle.standard_path.specs.declared.view.SegmentIndex.{SegmentIndex}
use Rattle.standard_path.specs.declared.view.HeaderError.{HeaderError}
use Rattle.standard_path.specs.declared.view.HeaderError.TheVariants.{MetaTooShort, DataTooShort, TooManyHops}

-- 'Info fields are as many as the nonzero lengths'
unfoldable pub infos : List ℕ → ℕ
infos path = info_count (seg0_len path) (seg1_len path) (seg2_len path)

unfoldable pub hops : List ℕ → ℕ
hops path = hop_count (seg0_len path) (seg1_len path) (seg2_len path)

-- the bytes that the header takes
unfoldable pub header_size : List ℕ → ℕ
header_size path = hop_offset (infos path) (hops path)

-- info field i, and hop field i
unfoldable pub info_field : List ℕ → ℕ → List ℕ
info_field path i = take 8 (drop (info_offset i) path)

unfoldable pub hop_field : List ℕ → ℕ → List ℕ
hop_field path i = take 12 (drop (hop_offset (infos path) i) path)

-- 01, 'Before everything', questions 2, 3 and 4: 'At least 4 bytes?', 'At least 4 + 8 × infos + 12 × hops?', 'At most 64 hops?'
abbrev pub meta_there : List ℕ → Bool
meta_there path = leb 4 (length path)

abbrev pub fields_there : List ℕ → Bool
fields_there path = leb (header_size path) (length path)

abbrev pub hops_few : List ℕ → Bool
hops_few path = leb (hops path) 64

abbrev pub header_questions : List ℕ → Questions HeaderError
header_questions path =
    (meta_there path, MetaTooShort) ∷ (fields_there path, DataTooShort) ∷ (hops_few path, TooManyHops) ∷ []

abbrev pub header_number : HeaderError → ℕ
header_number MetaTooShort = 2
header_number DataTooShort = 3
header_number TooManyHops = 4

unfoldable pub header_check : List ℕ → Result Unit HeaderError
header_check path = asks Err (header_questions path) (Ok tt)

-- ---- a segment is known by its place among the three lengths, empty ones counted

-- the segment of hop h: the first that ends behind it; the third for a hop that is not there, which 5 turns down
abbrev pub segment_of : ℕ → ℕ → ℕ → ℕ
segment_of seg0 seg1 h = cond (ltb h seg0) 0 (cond (ltb h (seg0 + seg1)) 1 2)

-- the hops before segment s, and up to its end
abbrev pub segment_start : ℕ → ℕ → ℕ → ℕ
segment_start seg0 seg1 s = cond (eqb s 0) 0 (cond (eqb s 1) seg0 (seg0 + seg1))

abbrev pub segment_end : ℕ → ℕ → ℕ → ℕ → ℕ
segment_end seg0 seg1 seg2 s = cond (eqb s 0) seg0 (cond (eqb s 1) (seg0 + seg1) (seg0 + seg1 + seg2))

-- `calculate_segment_index`: the segment of hop h, and whether the hop is its first, and its last
unfoldable pub segment_among : ℕ → ℕ → ℕ → ℕ → Option SegmentIndex
segment_among seg0 seg1 seg2 h =
    let segment = segment_of seg0 seg1 h in
    cond (ltb h (hop_count seg0 seg1 seg2))
    (Some (record {
      index = segment;
      start = eqb h (segment_start seg0 seg1 segment);
      end = eqb (h + 1) (segment_end seg0 seg1 seg2 segment);
    }))
    None

unfoldable pub segment_index : List ℕ → ℕ → Option SegmentIndex
segment_index path h = segment_among (seg0_len path) (seg1_len path) (seg2_len path) h
