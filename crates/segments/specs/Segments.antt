-- 01, 'view.rs' and 'The shape of each place': the segments of a path before the first zero length, and an iterator over them. The Rust:
-- `segments` and `SegmentIterator` of view.rs.
-- Assumes nothing.
use Rattle.std.specs.Prelude.{ℕ, zero, suc, ◌+◌, ◌-◌, ◌*◌, cond, List, [], ◌∷◌, eqb, ltb, leb, length, get_or, take, drop, Option, Some, None}
use Rattle.std.specs.Borrow.{Bor}
use Rattle.standard_path.specs.Meta.{seg0_len, seg1_len, seg2_len}
use Rattle.fields.specs.Layout.{hop_offset}
use Rattle.standard_path.specs.Header.{infos, hops}
use Rattle.segments.specs.declared.SegmentPlace.{SegmentPlace}
use Rattle.segments.specs.declared.Segment.{Segment}
use Rattle.segments.specs.declared.SegmentIterator.{SegmentIterator}

-- ---- the segments

-- those of a list of lengths before its first zero, the first of them with info field s and first hop h
abbrev pub segments_from : ℕ → ℕ → List ℕ → List Segment
segments_from s h [] = []
segments_from s h (n ∷ lengths) =
    cond (eqb n 0) []
    (record { info_idx = s; first_hop = h; hop_count = n; next = record { seg_idx = s + 1; hop_idx = h + n } }
    ∷ segments_from (s + 1) (h + n) lengths)

abbrev pub lengths : List ℕ → List ℕ
lengths path = seg0_len path ∷ seg1_len path ∷ seg2_len path ∷ []

unfoldable pub segments : List ℕ → List Segment
segments path = segments_from 0 0 (lengths path)

unfoldable pub segment_count : List ℕ → ℕ
segment_count path = length (segments path)

-- count hop fields from hop field `first` on, as one part
unfoldable pub hop_fields : List ℕ → ℕ → ℕ → List ℕ
hop_fields path first count = take (12 * count) (drop (hop_offset (infos path) first) path)

-- ---- a step along them

-- the length of segment s, 0 past the third
unfoldable pub seg_len : List ℕ → ℕ → ℕ
seg_len path s = get_or (lengths path) s 0

-- the segment at a place; none where no segment is left, or its hops are not all there
unfoldable pub next_segment : List ℕ → SegmentPlace → Option Segment
next_segment path place =
    cond (leb (segment_count path) place.seg_idx) None
    (cond (ltb (hops path) (place.hop_idx + seg_len path place.seg_idx)) None
    (Some (record {
      info_idx = place.seg_idx;
      first_hop = place.hop_idx;
      hop_count = seg_len path place.seg_idx;
      next = record { seg_idx = place.seg_idx + 1; hop_idx = place.hop_idx + seg_len path place.seg_idx };
    })))

abbrev pub place_after : SegmentPlace → Option Segment → SegmentPlace
place_after place (Some segment) = segment.next
place_after place None = place

-- ---- an iterator: the path, and the place in it

abbrev pub started : Bor (List ℕ) → SegmentIterator
started path = record { path = path; place = record { seg_idx = 0; hop_idx = 0 } }

-- what `next` gives, and what it leaves: the same path, and the place behind the step
abbrev pub step_of : SegmentIterator → Option Segment
step_of at = next_segment at.path.now at.place

abbrev pub advanced : SegmentIterator → SegmentIterator
advanced at = record { path = at.path; place = place_after at.place (step_of at) }

-- what is left to it: what its steps give, up to the last segment
abbrev pub then_more : Option Segment → List Segment → List Segment
then_more (Some segment) more = segment ∷ more
then_more None more = []

abbrev pub steps_within : ℕ → SegmentIterator → List Segment
steps_within zero at = []
steps_within (suc n) at = then_more (step_of at) (steps_within n (advanced at))

unfoldable pub rest : SegmentIterator → List Segment
rest at = steps_within (segment_count at.path.now - at.place.seg_idx) at
