-- An iterator gives, step by step, the segments before the first zero length, in order, and then the end for ever.
-- Assumes nothing.
use mathlib.Core.Path.{◌≡◌, refl, sym, ap, subst, ◌∙◌}
use mathlib.Core.Bool.{Bool, true, false}
use mathlib.Core.List.{List, [], ◌∷◌}
use Prim.Native.Nat.{ℕ, zero, suc, ◌+◌, ◌-◌, ◌≤◌, ◌<◌}
use native.Mathlib.Omega.{arith}
use borrow.Author.Tests.{le-leb, lt-leb, le-ltb, leb-false, ltb-false}
use lib.Dec.{eqb, ltb, leb}
use denote.Ref.{Bor}
use lib.ListN.{length, get_or}
use Rattle.std.specs.Prelude.{Option, Some, None}
use Rattle.standard_path.specs.Header.{hops}
use Rattle.segments.specs.Segments.{segments_from, lengths, segments, segment_count, seg_len, next_segment, place_after, started, step_of, advanced, steps_within, rest}
use Rattle.segments.specs.declared.SegmentIterator.{SegmentIterator}
use Rattle.segments.specs.declared.SegmentPlace.{SegmentPlace}
use Rattle.segments.specs.declared.Segment.{Segment}

-- the steps of an iterator to its end, with the segments that they give
pub data Walk : SegmentIterator → List Segment → Type 0 where
  ends : {at : SegmentIterator} → step_of at ≡ None → Walk at []
  goes : {at : SegmentIterator} {segment : Segment} {more : List Segment} → step_of at ≡ Some segment → Walk (advanced at) more
      → Walk at (segment ∷ more)

-- there is no other walk from it
pub walk_only : {at : SegmentIterator} {one other : List Segment} → Walk at one → Walk at other → one ≡ other
walk_only (ends p) (ends q) = refl
walk_only (ends p) (goes q w) = let z : ◌≡◌ {A = ℕ} 0 1 = cc in absurd (omega arith)
walk_only (goes p v) (ends q) = let z : ◌≡◌ {A = ℕ} 0 1 = cc in absurd (omega arith)
walk_only (goes p v) (goes q w) = let rest = walk_only v w in cc

-- past the end there is the end again
pub end_stays : (at : SegmentIterator) → step_of at ≡ None → advanced at ≡ at
end_stays at e = ap (λ (step : Option Segment). record { path = at.path; place = place_after at.place step }) e

module _ (path : List ℕ) where
  abbrev pub place : ℕ → ℕ → SegmentPlace
  place s h = record { seg_idx = s; hop_idx = h }

  -- a step, where it ends and where it goes on
  pub step_ends : (s h : ℕ) → segment_count path ≤ s → next_segment path (place s h) ≡ None
  unfolding next_segment
  step_ends s h e = simp (le-leb _ _ e)

  pub step_goes : (s h n : ℕ) → s < segment_count path → seg_len path s ≡ n → h + n ≤ hops path
      → next_segment path (place s h) ≡ Some (record { info_idx = s; first_hop = h; hop_count = n; next = place (s + 1) (h + n) })
  unfolding next_segment
  step_goes s h n b e r = rw e (simp (lt-leb _ _ b, le-ltb _ _ r))

  abbrev total : List ℕ → ℕ
  total [] = 0
  total (n ∷ left) = n + total left

  -- the lengths left at segment s, whose first hop is h
  record Onward (s h : ℕ) (left : List ℕ) : Type 0 where
    pub counted : segment_count path ≡ s + length (segments_from s h left)
    pub at : (k : ℕ) → seg_len path (s + k) ≡ get_or left k 0
    pub sum : hops path ≡ h + total left

  onward_more : {s h n : ℕ} {left : List ℕ} → eqb n 0 ≡ false → Onward s h (n ∷ left) → Onward (s + 1) (h + n) left
  onward_more {s} {h} {n} {left} e o =
      let counted = rw e at o.counted in
      record {
        counted = omega (arith, counted);
        at = λ k. ap (seg_len path) (omega arith) ∙ o.at (suc k);
        sum = omega (arith, o.sum);
      }

  from_at_most : (s h : ℕ) (left : List ℕ) → length (segments_from s h left) ≤ length left
  from_at_most s h [] = omega arith
  from_at_most s h (n ∷ left) = go (eqb n 0) refl (from_at_most (s + 1) (h + n) left)
    where
      go : (b : Bool) → eqb n 0 ≡ b → length (segments_from (s + 1) (h + n) left) ≤ length left
          → length (segments_from s h (n ∷ left)) ≤ length (n ∷ left)
      go true e again = rw e (omega arith)
      go false e again = rw e (omega arith)

  pub count_at_most : segment_count path ≤ 3
  unfolding segment_count segments
  count_at_most = from_at_most 0 0 (lengths path)

-- a segment stands at its place, and its hops are among the header's
pub record Placed (path : List ℕ) (place : SegmentPlace) (segment : Segment) : Type 0 where
  pub info : segment.info_idx ≡ place.seg_idx
  pub first : segment.first_hop ≡ place.hop_idx
  pub counted : segment.info_idx < segment_count path
  pub within : segment.first_hop + segment.hop_count ≤ hops path
  pub next : segment.next ≡ record { seg_idx = segment.info_idx + 1; hop_idx = segment.first_hop + segment.hop_count }

pub placed : (path : List ℕ) (place : SegmentPlace) {segment : Segment} → next_segment path place ≡ Some segment → Placed path place segment
unfolding next_segment
placed path place {segment} = go (leb (segment_count path) place.seg_idx) (ltb (hops path) (place.hop_idx + seg_len path place.seg_idx)) refl refl
  where
    go : (b d : Bool) → leb (segment_count path) place.seg_idx ≡ b → ltb (hops path) (place.hop_idx + seg_len path place.seg_idx) ≡ d
        → next_segment path place ≡ Some segment → Placed path place segment
    go true d p q e = let f = rw p at e in let z : ◌≡◌ {A = ℕ} 0 1 = cc in absurd (omega arith)
    go false true p q e = let f = rw (p, q) at e in let z : ◌≡◌ {A = ℕ} 0 1 = cc in absurd (omega arith)
    go false false p q e =
        let f = rw (p, q) at e in
        let i : segment.info_idx ≡ place.seg_idx = cc in
        let h : segment.first_hop ≡ place.hop_idx = cc in
        let n : segment.hop_count ≡ seg_len path place.seg_idx = cc in
        let on : segment.next ≡ record { seg_idx = place.seg_idx + 1; hop_idx = place.hop_idx + seg_len path place.seg_idx } = cc in
        record { info = i; first = h; counted = rw i (leb-false _ _ p); within = rw (h, n) (ltb-false _ _ q); next = rw (i, h, n) on }

module _ (lent : Bor (List ℕ)) where
  abbrev path : List ℕ
  path = lent.now

  abbrev iterator : ℕ → ℕ → SegmentIterator
  iterator s h = record { path = lent; place = place path s h }

  walk_more : {s h n : ℕ} {left : List ℕ} (b : Bool) → eqb n 0 ≡ b → Onward path s h (n ∷ left)
      → (Onward path (s + 1) (h + n) left → Walk (iterator (s + 1) (h + n)) (segments_from (s + 1) (h + n) left))
      → Walk (iterator s h) (segments_from s h (n ∷ left))
  walk_more {s} {h} true e o again =
      let counted = rw e at o.counted in
      rw e (ends (step_ends path s h (omega (arith, counted))))
  walk_more {s} {h} {n} {left} false e o again =
      let counted = rw e at o.counted in
      let here : seg_len path s ≡ n = ap (seg_len path) (omega arith) ∙ o.at 0 in
      let step = step_goes path s h n (omega (arith, counted)) here (omega (arith, o.sum)) in
      let behind : advanced (iterator s h) ≡ iterator (s + 1) (h + n) =
      ap (λ (to : Option Segment). record { path = lent; place = place_after (place path s h) to }) step in
      rw e (goes step (subst (λ (at : SegmentIterator). Walk at (segments_from (s + 1) (h + n) left)) (sym behind) (again (onward_more path e o))))

  walk_from : (left : List ℕ) (s h : ℕ) → Onward path s h left → Walk (iterator s h) (segments_from s h left)
  walk_from [] s h o = ends (step_ends path s h (omega (arith, o.counted)))
  walk_from (n ∷ left) s h o = walk_more (eqb n 0) refl o (walk_from left (s + 1) (h + n))

  pub walk_segments : Walk (started lent) (segments path)
  unfolding segments segment_count seg_len hops
  walk_segments =
      walk_from (lengths path) 0 0
      (record { counted = omega arith; at = λ k. let e : 0 + k ≡ k = omega arith in rw e; sum = omega arith })

-- ---- what is left to an iterator

module _ (at : SegmentIterator) where
  -- nothing, where a step gives nothing
  pub rest_none : step_of at ≡ None → rest at ≡ []
  unfolding rest
  rest_none e = go (segment_count at.path.now - at.place.seg_idx)
    where
      go : (n : ℕ) → steps_within n at ≡ []
      go zero = refl
      go (suc n) = rw e

  -- else the segment that a step gives, and what is left behind it
  pub rest_some : {segment : Segment} → step_of at ≡ Some segment
      → rest at ≡ segment ∷ rest (record { path = at.path; place = segment.next })
  unfolding rest
  rest_some {segment} e =
      let place = placed at.path.now at.place e in
      let on : segment.next.seg_idx ≡ segment.info_idx + 1 = ap (λ (to : SegmentPlace). to.seg_idx) place.next in
      let n : segment_count at.path.now - at.place.seg_idx ≡ suc (segment_count at.path.now - segment.next.seg_idx) = omega (arith, place.info, place.counted, on) in
      rw (n, e)

-- all segments are left to one that starts
pub walk_rest : (at : SegmentIterator) {all : List Segment} → Walk at all → rest at ≡ all
walk_rest at (ends e) = rest_none at e
walk_rest at (goes {segment = segment} e w) =
    let on : advanced at ≡ record { path = at.path; place = segment.next } =
    ap (λ (step : Option Segment). record { path = at.path; place = place_after at.place step }) e in
    rest_some at e ∙ ap (λ (more : List Segment). segment ∷ more) (ap rest (sym on) ∙ walk_rest (advanced at) w)

pub rest_started : (lent : Bor (List ℕ)) → rest (started lent) ≡ segments lent.now
rest_started lent = walk_rest (started lent) (walk_segments lent)
