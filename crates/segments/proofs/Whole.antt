-- In a header whose bytes are all there, a segment that an iterator gives has its parts in full.
-- Assumes nothing.
use mathlib.Core.Path.{◌≡◌, refl}
use mathlib.Core.Bool.{Bool, true, false}
use mathlib.Core.List.{List, [], ◌∷◌}
use Prim.Native.Nat.{ℕ, ◌+◌, ◌*◌, ◌≤◌, min}
use native.Mathlib.Omega.{arith}
use borrow.Author.Tests.{eqb-false}
use lib.Dec.{eqb}
use lib.ListN.{length, drop, length-drop}
use lib.Seq.{length-take-le}
use Rattle.std.specs.Prelude.{Some}
use Rattle.fields.specs.Layout.{info_offset, hop_offset}
use Rattle.standard_path.specs.Header.{infos, header_size, info_field}
use Rattle.segments.specs.Segments.{segments_from, lengths, segments, segment_count, hop_fields, step_of}
use Rattle.segments.proofs.Walk.{Placed, placed}
use Rattle.segments.specs.declared.SegmentIterator.{SegmentIterator}
use Rattle.segments.specs.declared.SegmentPlace.{SegmentPlace}
use Rattle.segments.specs.declared.Segment.{Segment}

-- the parts of a segment, each with its size
pub record Full (path : List ℕ) (info first count : ℕ) : Type 0 where
  pub info_size : length (info_field path info) ≡ 8
  pub hops_size : length (hop_fields path first count) ≡ 12 * count

module _ (path : List ℕ) where
  abbrev nonzeros : List ℕ → ℕ
  nonzeros [] = 0
  nonzeros (n ∷ left) = min n 1 + nonzeros left

  from_few : (s h : ℕ) (left : List ℕ) → length (segments_from s h left) ≤ nonzeros left
  from_few s h [] = omega arith
  from_few s h (n ∷ left) = go (eqb n 0) refl (from_few (s + 1) (h + n) left)
    where
      go : (b : Bool) → eqb n 0 ≡ b → length (segments_from (s + 1) (h + n) left) ≤ nonzeros left
          → length (segments_from s h (n ∷ left)) ≤ nonzeros (n ∷ left)
      go true e again = rw e (omega arith)
      go false e again = let some : n ≡ 0 → ⊥ = eqb-false _ _ e in rw e (omega (arith, again, some))

  count_few : segment_count path ≤ infos path
  unfolding segment_count segments infos
  count_few = omega (arith, from_few 0 0 (lengths path))

  full : {place : SegmentPlace} {segment : Segment} → header_size path ≤ length path → Placed path place segment
      → Full path segment.info_idx segment.first_hop segment.hop_count
  unfolding header_size info_field hop_fields
  full {segment = segment} whole i =
      let info = segment.info_idx in
      let first = segment.first_hop in
      let count = segment.hop_count in
      let info-left = length-drop (info_offset info) path in
      let hops-left = length-drop (hop_offset (infos path) first) path in
      record {
        info_size = length-take-le 8 (drop (info_offset info) path) (omega (arith, info-left, whole, i.counted, count_few));
        hops_size =
            length-take-le (12 * count) (drop (hop_offset (infos path) first) path) (omega (arith, hops-left, whole, i.within));
      }

pub segment_full : (at : SegmentIterator) {segment : Segment} → header_size at.path.now ≤ length at.path.now → step_of at ≡ Some segment
    → Full at.path.now segment.info_idx segment.first_hop segment.hop_count
segment_full at whole e = full at.path.now whole (placed at.path.now at.place e)
