-- The lengths after a reversal: set, swapped end for end, and what that leaves as it was.
-- Assumes nothing.
use mathlib.Core.Path.{◌≡◌, refl, sym, ◌∙◌}
use mathlib.Core.Bool.{Bool, true, false}
use mathlib.Core.List.{List, [], ◌∷◌}
use Prim.Native.Nat.{ℕ, ◌≤◌, ◌<◌}
use native.Mathlib.Omega.{arith}
use lib.Dec.{eqb}
use lib.ListN.{length, get_or, drop, length-set}
use lib.Seq.{drop-set-lt}
use borrow.Author.Tests.{eqb-true, eqb-false, eq-eqb, ne_eqb}
use Rattle.fields.specs.Layout.{info_count, hop_count}
use Rattle.standard_path.specs.Meta.{seg0_len, seg1_len, seg2_len}
use Rattle.standard_path.specs.Header.{infos, hops}
use Rattle.segments.specs.Segments.{segments, segment_count}
use Rattle.reverse_parts.specs.Parts.{set_lengths, swap_lengths}

pub record Lengths (path : List ℕ) (seg0 seg1 seg2 : ℕ) : Type 0 where
  pub first : seg0_len path ≡ seg0
  pub second : seg1_len path ≡ seg1
  pub third : seg2_len path ≡ seg2

pub own_lengths : (path : List ℕ) → Lengths path (seg0_len path) (seg1_len path) (seg2_len path)
own_lengths path = record { first = refl; second = refl; third = refl }

module _ {path : List ℕ} {seg0 seg1 seg2 : ℕ} (l : Lengths path seg0 seg1 seg2) where
  pub infos_of : infos path ≡ info_count seg0 seg1 seg2
  unfolding infos
  infos_of = rw (l.first, l.second, l.third)

  pub hops_of : hops path ≡ hop_count seg0 seg1 seg2
  unfolding hops
  hops_of = omega arith

  two_of : (seg0 ≡ 0 → ⊥) → (seg1 ≡ 0 → ⊥) → seg2 ≡ 0 → segment_count path ≡ 2
  unfolding segment_count segments
  two_of n m e = simp (ne_eqb _ _ (λ z. n (sym l.first ∙ z)), ne_eqb _ _ (λ z. m (sym l.second ∙ z)), eq-eqb _ _ (l.third ∙ e))

  three_of : (seg0 ≡ 0 → ⊥) → (seg1 ≡ 0 → ⊥) → (seg2 ≡ 0 → ⊥) → segment_count path ≡ 3
  unfolding segment_count segments
  three_of n m k =
      simp (ne_eqb _ _ (λ z. n (sym l.first ∙ z)), ne_eqb _ _ (λ z. m (sym l.second ∙ z)), ne_eqb _ _ (λ z. k (sym l.third ∙ z)))

-- ---- set

pub set_lengths_lem : (path : List ℕ) {seg0 seg1 seg2 : ℕ} → 4 ≤ length path → seg0 < 64 → seg1 < 64 → seg2 < 64
    → Lengths (set_lengths path seg0 seg1 seg2) seg0 seg1 seg2
unfolding set_lengths
set_lengths_lem [] m p q r = absurd (omega arith)
set_lengths_lem (b0 ∷ []) m p q r = absurd (omega arith)
set_lengths_lem (b0 ∷ b1 ∷ []) m p q r = absurd (omega arith)
set_lengths_lem (b0 ∷ b1 ∷ b2 ∷ []) m p q r = absurd (omega arith)
set_lengths_lem (b0 ∷ b1 ∷ b2 ∷ b3 ∷ rest) m p q r = record { first = omega arith; second = omega arith; third = omega arith }

-- bytes 1 to 3 are set
record Kept (path left : List ℕ) : Type 0 where
  size : length left ≡ length path
  first : get_or left 0 0 ≡ get_or path 0 0
  behind : (k : ℕ) → 4 ≤ k → drop k left ≡ drop k path

kept : (path : List ℕ) (seg0 seg1 seg2 : ℕ) → Kept path (set_lengths path seg0 seg1 seg2)
unfolding set_lengths
kept path seg0 seg1 seg2 = record { size = simp length-set; first = first path; behind = behind }
  where
    first : (path : List ℕ) → get_or (set_lengths path seg0 seg1 seg2) 0 0 ≡ get_or path 0 0
    first [] = refl
    first (b0 ∷ rest) = refl

    behind : (k : ℕ) → 4 ≤ k → drop k (set_lengths path seg0 seg1 seg2) ≡ drop k path
    behind k h =
        let three : 3 < k = omega arith in
        let two : 2 < k = omega arith in
        let one : 1 < k = omega arith in
        rw (drop-set-lt, drop-set-lt, drop-set-lt)

-- ---- swapped

module _ (a b c : ℕ) where
  two_infos : info_count b a c ≡ info_count a b c
  two_infos = omega arith

  three_infos : info_count c b a ≡ info_count a b c
  three_infos = omega arith

  two_hops : hop_count b a c ≡ hop_count a b c
  two_hops = omega arith

  three_hops : hop_count c b a ≡ hop_count a b c
  three_hops = omega arith

module _ (path : List ℕ) where
  -- what holds of each way to swap holds of the swap
  by_used : (P : List ℕ → Type 0) → (seg1_len path ≡ 0 → P path)
      → ((seg1_len path ≡ 0 → ⊥) → seg2_len path ≡ 0 → P (set_lengths path (seg1_len path) (seg0_len path) (seg2_len path)))
      → ((seg1_len path ≡ 0 → ⊥) → (seg2_len path ≡ 0 → ⊥) → P (set_lengths path (seg2_len path) (seg1_len path) (seg0_len path)))
      → P (swap_lengths path)
  unfolding swap_lengths
  by_used P one two three = go (eqb (seg1_len path) 0) (eqb (seg2_len path) 0) refl refl
    where
      go : (b d : Bool) → eqb (seg1_len path) 0 ≡ b → eqb (seg2_len path) 0 ≡ d → P (swap_lengths path)
      go true d p q = rw p (one (eqb-true _ _ p))
      go false true p q = rw (p, q) (two (eqb-false _ _ p) (eqb-true _ _ q))
      go false false p q = rw (p, q) (three (eqb-false _ _ p) (eqb-false _ _ q))

  kept_by_swap : Kept path (swap_lengths path)
  kept_by_swap =
      by_used (Kept path) (λ e. record { size = refl; first = refl; behind = λ k h. refl })
      (λ n e. kept path _ _ _)
      (λ n k. kept path _ _ _)

  pub length_swap_lengths : length (swap_lengths path) ≡ length path
  length_swap_lengths = kept_by_swap.size

  pub first_byte_kept : get_or (swap_lengths path) 0 0 ≡ get_or path 0 0
  first_byte_kept = kept_by_swap.first

  pub behind_lengths : (k : ℕ) → 4 ≤ k → drop k (swap_lengths path) ≡ drop k path
  behind_lengths = kept_by_swap.behind

  module _ (bytes : (i : ℕ) → get_or path i 0 < 256) (meta : 4 ≤ length path) where
    small0 : seg0_len path < 64
    small0 = omega (arith, bytes 2)

    small1 : seg1_len path < 64
    small1 = omega (arith, bytes 3)

    small2 : seg2_len path < 64
    small2 = omega arith

    two_swapped : Lengths (set_lengths path (seg1_len path) (seg0_len path) (seg2_len path)) (seg1_len path) (seg0_len path) (seg2_len path)
    two_swapped = set_lengths_lem path meta small1 small0 small2

    three_swapped : Lengths (set_lengths path (seg2_len path) (seg1_len path) (seg0_len path)) (seg2_len path) (seg1_len path) (seg0_len path)
    three_swapped = set_lengths_lem path meta small2 small1 small0

    pub swapped_one : seg1_len path ≡ 0 → Lengths (swap_lengths path) (seg0_len path) (seg1_len path) (seg2_len path)
    unfolding swap_lengths
    swapped_one e = simp (eq-eqb _ _ e) (own_lengths path)

    pub swapped_two : (seg1_len path ≡ 0 → ⊥) → seg2_len path ≡ 0 → Lengths (swap_lengths path) (seg1_len path) (seg0_len path) (seg2_len path)
    unfolding swap_lengths
    swapped_two n e = simp (ne_eqb _ _ n, eq-eqb _ _ e) two_swapped

    pub swapped_three : (seg1_len path ≡ 0 → ⊥) → (seg2_len path ≡ 0 → ⊥)
        → Lengths (swap_lengths path) (seg2_len path) (seg1_len path) (seg0_len path)
    unfolding swap_lengths
    swapped_three n k = simp (ne_eqb _ _ n, ne_eqb _ _ k) three_swapped

    pub swapped_infos : infos (swap_lengths path) ≡ infos path
    swapped_infos =
        by_used (λ l. infos l ≡ infos path) (λ e. refl)
        (λ n e. infos_of two_swapped ∙ two_infos _ _ _ ∙ sym (infos_of (own_lengths path)))
        (λ n k. infos_of three_swapped ∙ three_infos _ _ _ ∙ sym (infos_of (own_lengths path)))

    pub swapped_hops : hops (swap_lengths path) ≡ hops path
    swapped_hops =
        by_used (λ l. hops l ≡ hops path) (λ e. refl)
        (λ n e. hops_of two_swapped ∙ two_hops _ _ _ ∙ sym (hops_of (own_lengths path)))
        (λ n k. hops_of three_swapped ∙ three_hops _ _ _ ∙ sym (hops_of (own_lengths path)))

    pub swapped_used : (seg0_len path ≡ 0 → ⊥) → segment_count (swap_lengths path) ≡ segment_count path
    swapped_used m =
        by_used (λ l. segment_count l ≡ segment_count path) (λ e. refl)
        (λ n e. two_of two_swapped n m e ∙ sym (two_of (own_lengths path) m n e))
        (λ n k. three_of three_swapped k n m ∙ sym (three_of (own_lengths path) m n k))
