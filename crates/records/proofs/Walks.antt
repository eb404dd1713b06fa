-- A chain, taken apart: it may go through `left` records more and stands at `index`.
-- Assumes nothing.
use mathlib.Core.Path.{◌≡◌, refl, sym}
use mathlib.Core.Bool.{Bool, true, false, cond}
use mathlib.Core.List.{List, [], ◌∷◌}
use Prim.Native.Nat.{ℕ, zero, suc, ◌-◌, ◌≤◌}
use native.Mathlib.Omega.{arith}
use borrow.Author.Tests.{eq-eqb, ne_eqb, eqb-false}
use lib.Dec.{eqb}
use lib.ListN.{length}
use Rattle.records.specs.Layout.{Layout}
use Rattle.records.specs.Records.{next_of, chain_within}

module _ (layout : Layout) (itinerary : List ℕ) where
  pub chain_end : (left index : ℕ) → index ≡ 0 → chain_within layout itinerary left index ≡ []
  unfolding chain_within
  chain_end zero index e = refl
  chain_end (suc left) index e = rw (eq-eqb index 0 e)

  pub chain_out : (left index : ℕ) → left ≡ 0 → chain_within layout itinerary left index ≡ []
  unfolding chain_within
  chain_out left index e = rw e

  pub chain_on : (left index : ℕ) → (left ≡ 0 → ⊥) → (index ≡ 0 → ⊥)
      → chain_within layout itinerary left index ≡ index ∷ chain_within layout itinerary (left - 1) (next_of layout itinerary index)
  unfolding chain_within
  chain_on zero index h n = absurd (h refl)
  chain_on (suc left) index h n = let d : suc left - 1 ≡ left = omega arith in rw (ne_eqb index 0 n, d)

  pub chain_short : (left index : ℕ) → length (chain_within layout itinerary left index) ≤ left
  unfolding chain_within
  chain_short zero index = omega arith
  chain_short (suc left) index = go (eqb index 0) (chain_short left (next_of layout itinerary index))
    where
      go : (b : Bool) → length (chain_within layout itinerary left (next_of layout itinerary index)) ≤ left
          → length (cond b [] (index ∷ chain_within layout itinerary left (next_of layout itinerary index))) ≤ suc left
      go true h = omega arith
      go false h = omega arith

  -- a chain that starts with a record
  pub chain_starts : (left index x : ℕ) (xs : List ℕ) → chain_within layout itinerary left index ≡ x ∷ xs
      → (1 ≤ left) × (index ≡ 0 → ⊥) × (index ≡ x) × (xs ≡ chain_within layout itinerary (left - 1) (next_of layout itinerary x))
  unfolding chain_within
  chain_starts zero index x xs e = cc
  chain_starts (suc left) index x xs e = go (eqb index 0) refl e
    where
      go : (b : Bool) → eqb index 0 ≡ b → cond b [] (index ∷ chain_within layout itinerary left (next_of layout itinerary index)) ≡ x ∷ xs
          → (1 ≤ suc left) × (index ≡ 0 → ⊥) × (index ≡ x) × (xs ≡ chain_within layout itinerary (suc left - 1) (next_of layout itinerary x))
      go true z e = cc
      go false z e =
          let head : index ≡ x = cc in
          let tail : chain_within layout itinerary left (next_of layout itinerary index) ≡ xs = cc in
          let d : suc left - 1 ≡ left = omega arith in
          (omega arith, eqb-false index 0 z, head, rw (d, ← head) (sym tail))
