-- Lists written out by a rule, and what a loop owes that fills an array from the front.
-- Assumes nothing.
use mathlib.Core.Path.{◌≡◌, refl, sym, ap, ◌∙◌}
use mathlib.Core.List.{List, ◌∷◌}
use mathlib.Core.Logic.{⊎_elim}
use Prim.Native.Nat.{ℕ, zero, suc, ◌+◌, ◌≤◌, ◌<◌}
use native.Mathlib.Nat.{not-suc-le-zero, le_of_suc-le-suc, eq-or-lt_of_le}
use native.Mathlib.Omega.{arith}
use lib.ListN.{length, get_or, set, take, drop, length-set, drop_of_length-le}
use lib.Seq.{drop-cons, length-take-le, get_or-take, ext_get_or, get_or-set_same, get_or-set_other}
use Rattle.octets.specs.Bytes.{tabulate}

pub length_tabulate : (f : ℕ → ℕ) (n i : ℕ) → length (tabulate n i f) ≡ n
length_tabulate f zero i = refl
length_tabulate f (suc n) i = ap suc (length_tabulate f n (suc i))

get_or_from : (f : ℕ → ℕ) (n i j : ℕ) → j < n → get_or (tabulate n i f) j 0 ≡ f (i + j)
get_or_from f zero i j h = absurd (not-suc-le-zero h)
get_or_from f (suc n) i zero h = ap f (omega arith)
get_or_from f (suc n) i (suc j) h = get_or_from f n (suc i) j (le_of_suc-le-suc h) ∙ ap f (omega arith)

pub get_or_tabulate : (f : ℕ → ℕ) (n j : ℕ) → j < n → get_or (tabulate n 0 f) j 0 ≡ f j
get_or_tabulate f n j h = get_or_from f n 0 j h ∙ ap f (omega arith)

-- the elements of a list, one by one
pub tabulate_get_or : (l : List ℕ) (n i : ℕ) → i + n ≡ length l → tabulate n i (λ j. get_or l j 0) ≡ drop i l
tabulate_get_or l zero i e = sym (drop_of_length-le l {i = i} (omega arith))
tabulate_get_or l (suc n) i e =
    let h : i < length l = omega arith in
    rw (drop-cons l i 0, tabulate_get_or l n (suc i) (omega arith))

-- the first n of them
pub tabulate_take : (l : List ℕ) (n : ℕ) → n ≤ length l → tabulate n 0 (λ j. get_or l j 0) ≡ take n l
tabulate_take l n h =
    ext_get_or 0 _ _ (length_tabulate _ n 0 ∙ sym (length-take-le n l h))
    (λ i b. let c : i < n = rw (length_tabulate _ n 0) at b in get_or_tabulate _ n i c ∙ sym (get_or-take n l i 0 c))

-- the first i elements of r are those of l
pub record Filled {A : Type 0} (d : A) (l r : List A) (i : ℕ) : Type 0 where
  pub size : length r ≡ length l
  pub within : i ≤ length l
  pub front : (j : ℕ) → j < i → get_or r j d ≡ get_or l j d

module _ {A : Type 0} (d : A) {l r : List A} where
  pub filled_none : length r ≡ length l → Filled d l r 0
  filled_none e = record { size = e; within = omega arith; front = λ j h. absurd (omega arith) }

  pub filled_more : {i : ℕ} (v : A) → v ≡ get_or l i d → i < length l → Filled d l r i → Filled d l (set r i v) (i + 1)
  filled_more {i} v q h p =
      record {
        size = length-set r i v ∙ p.size;
        within = omega arith;
        front = λ j b.
            ⊎_elim (λ (e : j ≡ i). ap (λ (m : ℕ). get_or (set r i v) m d) e ∙ get_or-set_same r i v d (omega (arith, p.size)) ∙ q ∙ ap (λ (m : ℕ). get_or l m d) (sym e))
            (λ (b : j < i). get_or-set_other r i j v d (λ e. omega arith) ∙ p.front j b)
            (eq-or-lt_of_le (omega arith));
      }

  pub filled_all : {i : ℕ} → length l ≤ i → Filled d l r i → r ≡ l
  filled_all b p = ext_get_or d r l p.size (λ j h. p.front j (omega (arith, p.size)))

pub filled_first : {A : Type 0} (d : A) {l xs : List A} {x : A} → length (x ∷ xs) ≡ length l → x ≡ get_or l 0 d → Filled d l (x ∷ xs) 1
filled_first d {l} {xs} {x} e q = record { size = e; within = omega arith; front = front }
  where
    front : (j : ℕ) → j < 1 → get_or (x ∷ xs) j d ≡ get_or l j d
    front zero h = q
    front (suc j) h = absurd (omega arith)

-- the same for a list by a rule
pub tabulated_more : (n : ℕ) (f : ℕ → ℕ) {r : List ℕ} {i : ℕ} (v : ℕ) → v ≡ f i → i < n
    → Filled 0 (tabulate n 0 f) r i → Filled 0 (tabulate n 0 f) (set r i v) (i + 1)
tabulated_more n f v q h p = filled_more 0 v (q ∙ sym (get_or_tabulate f n _ h)) (rw (length_tabulate f n 0) h) p
