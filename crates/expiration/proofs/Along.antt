-- A walk by the iterator, with the least expiry of the segments passed.
-- Assumes nothing.
use mathlib.Core.Path.{◌≡◌, sym, ap, ◌∙◌}
use mathlib.Core.List.{List, [], ◌∷◌, map}
use Prim.Native.Nat.{ℕ, ◌+◌, ◌-◌, ◌≤◌, ◌<◌, min}
use native.Mathlib.Omega.{arith}
use denote.Ref.{Bor}
use Rattle.std.specs.Prelude.{Some, None}
use Rattle.segments.specs.Segments.{segments, segment_count, started, step_of, advanced}
use Rattle.segments.specs.declared.SegmentIterator.{SegmentIterator}
use Rattle.segments.specs.declared.Segment.{Segment}
use Rattle.segments.specs.declared.SegmentPlace.{SegmentPlace}
use Rattle.segments.proofs.Walk.{Walk, ends, goes, walk_segments, placed}
use Rattle.expiration.specs.Expiration.{least, segment_expiry}
use Rattle.expiration.proofs.Expiry.{least_capped}

-- the least of all is that of the least so far and of those left
pub record Left (all : List ℕ) (so_far : ℕ) (left : List ℕ) : Type 0 where
  pub capped : so_far ≤ 4294967295
  pub same : least all ≡ min so_far (least left)

-- the segments left at an iterator, and the least time of those passed
pub record Along (path : List ℕ) (at : SegmentIterator) (so_far : ℕ) : Type 0 where
  pub rest : List Segment
  pub walk : Walk at rest
  pub left : Left (map (segment_expiry path) (segments path)) so_far (map (segment_expiry path) rest)

pub along_all : (lent : Bor (List ℕ)) → Along lent.now (started lent) 4294967295
along_all lent = record {
  rest = segments lent.now;
  walk = walk_segments lent;
  left = record { capped = omega arith; same = omega (arith, least_capped (map (segment_expiry lent.now) (segments lent.now))) };
}

pub along_further : {path : List ℕ} {at : SegmentIterator} {so_far after : ℕ} {segment : Segment} → Along path at so_far
    → step_of at ≡ Some segment → after ≡ min so_far (segment_expiry path segment) → Along path (advanced at) after
along_further {path} {at} {so_far} {after} {segment} a e f = go a.rest a.walk a.left
  where
    go : (rest : List Segment) → Walk at rest
        → Left (map (segment_expiry path) (segments path)) so_far (map (segment_expiry path) rest) → Along path (advanced at) after
    go [] (ends q) l = let z : ◌≡◌ {A = ℕ} 0 1 = cc in absurd (omega arith)
    go (s ∷ rest) (goes q w) l =
        let here : s ≡ segment = cc in
        let time : after ≡ min so_far (segment_expiry path s) = f ∙ ap (λ (x : Segment). min so_far (segment_expiry path x)) (sym here) in
        record { rest = rest; walk = w; left = record { capped = omega (arith, l.capped, time); same = omega (arith, l.same, time) } }

pub along_none : {path : List ℕ} {at : SegmentIterator} {so_far : ℕ} → Along path at so_far → step_of at ≡ None
    → so_far ≡ least (map (segment_expiry path) (segments path))
along_none {path} {at} {so_far} a e = go a.rest a.walk a.left
  where
    go : (rest : List Segment) → Walk at rest
        → Left (map (segment_expiry path) (segments path)) so_far (map (segment_expiry path) rest)
        → so_far ≡ least (map (segment_expiry path) (segments path))
    go [] (ends q) l = omega (arith, l.capped, l.same)
    go (s ∷ rest) (goes q w) l = let z : ◌≡◌ {A = ℕ} 0 1 = cc in absurd (omega arith)

-- a step that gives a segment leaves fewer
pub nearer : (at : SegmentIterator) {segment : Segment} → step_of at ≡ Some segment
    → segment_count at.path.now - (advanced at).place.seg_idx < segment_count at.path.now - at.place.seg_idx
nearer at {segment} e =
    let here = placed at.path.now at.place e in
    let counted = here.counted in
    let info = here.info in
    let next : segment.next.seg_idx ≡ segment.info_idx + 1 = ap (λ (to : SegmentPlace). to.seg_idx) here.next in
    rw e (omega (arith, counted, info, next))
