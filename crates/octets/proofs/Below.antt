-- Two functions agree at every number below a bound, by one test that antt computes: `same_below 256 f g refl`.
-- Assumes nothing.
use mathlib.Core.Path.{◌≡◌}
use mathlib.Core.List.{List, [], ◌∷◌}
use mathlib.Core.Logic.{⊎_elim}
use Prim.Native.Nat.{ℕ, zero, suc, ◌<◌}
use native.Mathlib.Nat.{le_of_suc-le-suc, not-suc-le-zero, eq-or-lt_of_le}

-- f (n - 1), .., f 0
abbrev pub values : {A : Type 0} → ℕ → (ℕ → A) → List A
values zero f = []
values (suc n) f = f n ∷ values n f

pub same_below : {A : Type 0} (n : ℕ) (f g : ℕ → A) → values n f ≡ values n g → (k : ℕ) → k < n → f k ≡ g k
same_below zero f g t k h = absurd (not-suc-le-zero h)
same_below (suc n) f g t k h = ⊎_elim (λ e. rw e (cc)) (same_below n f g (cc) k) (eq-or-lt_of_le (le_of_suc-le-suc h))
