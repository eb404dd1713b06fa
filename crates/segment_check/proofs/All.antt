-- Tests over all numbers below a count, and what the loops owe that ask them one by one: `done` of them have been asked.
-- Assumes nothing.
use mathlib.Core.Path.{◌≡◌, refl, sym, ap, ap₂, subst, ◌∙◌}
use mathlib.Core.Bool.{Bool, true, false, not, ◌&&◌}
use mathlib.Core.List.{List, [], ◌∷◌}
use Prim.Native.Nat.{ℕ, zero, suc, ◌+◌, ◌≤◌, ◌<◌}
use native.Mathlib.Numerals.{add-one}
use native.Mathlib.Omega.{arith}
use borrow.Author.Tests.{eqb-true, eqb-false, not-true, not-false}
use lib.Dec.{eqb}
use lib.ListN.{length, get_or}
use Rattle.std.proofs.Common.{zero-add, Iter}
use Rattle.std.proofs.iter.Serving.{same}
use Rattle.std.proofs.iter.Yields.{fronts, nat_range_steps}
use Rattle.std.proofs.lemmas.Iterator.{zips, cases_from_all, YieldsList-from_range, YieldsList-from_slice, YieldsList-from_zip}
use Rattle.std.specs.Prelude.{Option}
use Rattle.std.specs.Iterator.{CallableAtEachTurn, ChecksAll, Yields}
use Rattle.std.specs.Fn.{Called}
use Rattle.std.specs.Iterator.Adapters.{zip_first, zip_second}
use Rattle.std.specs.Slice.Iter.{iter_rest}
use denote.Param.Members.{Mut}
use denote.Ref.{Bor}
use Rattle.std.specs.declared.iter.Zip.{Zip}
use Rattle.std.specs.declared.ops.Range.{Range}
use Rattle.std.specs.Bool.{MatchBool}
use Rattle.std.specs.List.{AllWithin, HoldsAt, range_with_len, zip}
use Rattle.std.proofs.lemmas.List.FromFn.{length-range_with_len, get_or-range_with_len}
use Rattle.std.proofs.lemmas.Slice.Zip.{length-zip, get_or-zip}
use Rattle.octets.proofs.Bools.{both, first_of, second_of}
use Rattle.standard_path.specs.Header.{infos}
use Rattle.segment_check.specs.Segment.{each_below}

pub all_at : (n : ℕ) (holds : ℕ → Bool) → each_below n holds ≡ true → (k : ℕ) → k < n → holds k ≡ true
unfolding each_below
all_at zero holds e k l = absurd (omega arith)
all_at (suc n) holds e k l = go (λ m. all_at n holds (first_of (each_below n holds) (holds n) e) k m) (eqb k n) refl
  where
    go : (k < n → holds k ≡ true) → (last : Bool) → eqb k n ≡ last → holds k ≡ true
    go below true q = rw (eqb-true k n q) (second_of (each_below n holds) (holds n) e)
    go below false q = below (omega (arith, eqb-false k n q))

pub all_of : (n : ℕ) (holds : ℕ → Bool) → ((k : ℕ) → k < n → holds k ≡ true) → each_below n holds ≡ true
unfolding each_below
all_of zero holds f = refl
all_of (suc n) holds f = both (all_of n holds (λ k l. f k (omega arith))) (f n (omega arith))

-- two questions that are the same below a count
pub all_same : (count : ℕ) (one other : ℕ → Bool) → ((k : ℕ) → k < count → one k ≡ other k) → each_below count one ≡ each_below count other
unfolding each_below
all_same zero one other same = refl
all_same (suc count) one other same =
    ap₂ (λ (x y : Bool). x && y) (all_same count one other (λ k h. same k (omega arith))) (same count (omega arith))

-- a path has at most three info fields
pub at_most_three : (path : List ℕ) (t : ℕ) → t < infos path → t < 3
unfolding infos
at_most_three path t h = omega arith

-- ---- what `all` says of a test that its closure computes, asked of a list that has a test's item for each number below a count

module _ {X : Type 0} (xs : List X) (d : X) (test : X → Bool) {n : ℕ} {holds : ℕ → Bool} (e : length xs ≡ n)
    (same : (k : ℕ) → k < n → test (get_or xs k d) ≡ holds k) where
  pub each_listed : (r : Bool)
      → MatchBool r (AllWithin (λ x. test x ≡ true) xs 0 (length xs)) ((k : ℕ) × (k < length xs) × HoldsAt (λ x. test x ≡ false) xs k)
      → r ≡ each_below n holds
  each_listed true asked = sym (all_of n holds (λ k l. sym (same k l) ∙ asked k d (omega arith) (omega arith)))
  each_listed false asked = go (each_below n holds) refl
    where
      go : (b : Bool) → each_below n holds ≡ b → false ≡ b
      go true q =
          let m : asked.0 < n = omega arith in
          sym (asked.2 d) ∙ same asked.0 m ∙ all_at n holds q asked.0 m
      go false q = refl

module _ {F : Type 0} (f : F) (n : ℕ) where
  -- of these numbers themselves
  pub all_counted : {g : Mut F (ℕ × Unit {0}) Bool} {s : Range ℕ} (u : Range ℕ) (r : Bool) (holds : ℕ → Bool)
      → s ≡ record { start = 0; end = n } → ChecksAll nat_range_steps g s f r u
      → ((x : ℕ) (b : Bool) (q : F) → Called g f (x, tt) b q → (q ≡ f) × (b ≡ holds x)) → r ≡ each_below n holds
  all_counted u r holds e ran computes =
      each_listed (range_with_len 0 n) 0 holds (length-range_with_len 0 n) (λ k l. ap holds (get_or-range_with_len 0 n k 0 l ∙ zero-add k)) r
      (cases_from_all u f r (λ k. holds k ≡ true) (λ k. holds k ≡ false) ran (YieldsList-from_range 0 n n e (omega arith))
      (λ x q k. let h = computes x true q k in (h.0, sym h.1)) (λ x q k. sym (computes x false q k).1))

  -- of each with its element of a list beside them
  pub all_beside : {g : Mut F ((ℕ × Bor ℕ) × Unit {0}) Bool} {s : Zip (Range ℕ) (Iter ℕ)} (u : Zip (Range ℕ) (Iter ℕ)) (r : Bool)
      (xs : List ℕ) (d : ℕ) (holds : ℕ → ℕ → Bool) → n ≤ length xs → zip_first s ≡ record { start = 0; end = n }
      → iter_rest (zip_second s) ≡ xs → ChecksAll (zips nat_range_steps fronts) g s f r u
      → ((x : ℕ × Bor ℕ) (b : Bool) (q : F) → Called g f (x, tt) b q → (q ≡ f) × (b ≡ holds x.0 x.1.now))
      → r ≡ each_below n (λ k. holds k (get_or xs k d))
  all_beside u r xs d holds long first second ran computes =
      let count = length-range_with_len 0 n in
      let numbers = range_with_len 0 n in
      each_listed (zip numbers xs) (d, d) (λ p. holds p.0 p.1) (omega (arith, length-zip numbers xs, count))
      (λ k l. ap (λ p. holds p.0 p.1) (get_or-zip numbers xs k (d, d) (omega (arith, count)) (omega arith))
      ∙ ap (λ j. holds j (get_or xs k d)) (get_or-range_with_len 0 n k d l ∙ zero-add k)) r
      (cases_from_all u f r (λ p. holds p.0 p.1 ≡ true) (λ p. holds p.0 p.1 ≡ false) ran
      (YieldsList-from_zip (YieldsList-from_range 0 n n first (omega arith)) (YieldsList-from_slice xs second))
      (λ x q k. let h = computes x true q k in (h.0, sym h.1)) (λ x q k. sym (computes x false q k).1))

-- what a test of these may be asked: the number is below the count
module _ {T B : Type 0} (others : T → Option B → T → Type 0) where
  ahead : (xs : List (ℕ × B)) (s t : Zip (Range ℕ) T) → Yields (zips nat_range_steps others) s xs t → t.a.end ≡ s.a.end
  ahead [] s t y = ap (λ k. k.a.end) (sym y)
  ahead (x ∷ xs) s t y = ahead xs y.0 t y.2 ∙ y.1.0.0

  pub serves_beside : {P : Type 0} {R : P → ℕ × B → P → Type 0} {Q : P → ℕ × B → Type 0} {s : Zip (Range ℕ) T} {p : P}
      → ((p : P) (x : ℕ × B) (q : P) → R p x q → q ≡ p) → ((x : ℕ × B) → x.0 < s.a.end → Q p x)
      → CallableAtEachTurn (zips nat_range_steps others) R Q s p
  serves_beside {R} {Q} {s} {p} stays h = record {
    at = λ xs t q x u y c e. subst (λ k. Q k x) (sym (same R stays xs p q c)) (h x (omega (arith, ahead xs s t y, e.0.0, e.0.1)));
  }

-- ---- asked one by one

pub record Asked (holds : ℕ → Bool) (count done : ℕ) : Type 0 where
  pub within : done ≤ count
  pub each : each_below done holds ≡ true

pub asked_none : (holds : ℕ → Bool) (count : ℕ) → Asked holds count 0
unfolding each_below
asked_none holds count = record { within = omega arith; each = refl }

module _ {holds : ℕ → Bool} {count done : ℕ} (asked : Asked holds count done) where
  pub asked_all : count ≤ done → true ≡ each_below count holds
  asked_all h = let e : done ≡ count = omega (arith, asked.within) in sym (rw e at asked.each)

  -- the answer of a call, and the code's test of it
  module _ {answer : Bool} (more : done < count) (e : answer ≡ holds done) where
    pub asked_no : not answer ≡ true → false ≡ each_below count holds
    asked_no h = go (each_below count holds) refl
      where
        go : (b : Bool) → each_below count holds ≡ b → false ≡ b
        go true q = sym (sym e ∙ not-true answer h) ∙ all_at count holds q done more
        go false q = refl

    pub asked_yes : not answer ≡ false → Asked holds count (done + 1)
    unfolding each_below
    asked_yes h =
        record { within = omega arith; each = rw (add-one done) (both asked.each (sym e ∙ not-false answer h)) }
