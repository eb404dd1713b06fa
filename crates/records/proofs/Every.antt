-- Laws of `every`.
-- Assumes nothing.
use mathlib.Core.Path.{◌≡◌, refl}
use mathlib.Core.Bool.{Bool, true, ◌&&◌}
use mathlib.Core.List.{List, [], ◌∷◌, map}
use Prim.Native.Nat.{ℕ, zero, suc, ◌<◌}
use native.Mathlib.Omega.{arith}
use lib.ListN.{length, get_or}
use Rattle.octets.proofs.Bools.{each_of, first_of, second_of}
use Rattle.records.specs.Records.{every}

pub every_map : {A B : Type 0} (holds : B → Bool) (f : A → B) (xs : List A) → every holds (map f xs) ≡ every (λ x. holds (f x)) xs
unfolding every
every_map holds f [] = refl
every_map holds f (x ∷ xs) = rw (every_map holds f xs)

module _ {A : Type 0} where
  pub every_at : (holds : A → Bool) (xs : List A) (none : A) → every holds xs ≡ true → (k : ℕ) → k < length xs
      → holds (get_or xs k none) ≡ true
  unfolding every
  every_at holds [] none e k l = absurd (omega arith)
  every_at holds (x ∷ xs) none e zero l = first_of (holds x) (every holds xs) e
  every_at holds (x ∷ xs) none e (suc k) l = every_at holds xs none (second_of (holds x) (every holds xs) e) k (omega arith)

  pub every_implied : (p q : A → Bool) (xs : List A) → ((x : A) → p x ≡ true → q x ≡ true) → every p xs ≡ true → every q xs ≡ true
  unfolding every
  every_implied p q [] h e = refl
  every_implied p q (x ∷ xs) h e =
      let held = each_of (p x) (every p xs) e in
      rw (h x held.0, every_implied p q xs h held.1)

  pub every_both : (p q : A → Bool) (xs : List A) → every p xs ≡ true → every q xs ≡ true → every (λ x. p x && q x) xs ≡ true
  unfolding every
  every_both p q [] d e = refl
  every_both p q (x ∷ xs) d e =
      let one = each_of (p x) (every p xs) d in
      let other = each_of (q x) (every q xs) e in
      rw (one.0, other.0, every_both p q xs one.1 other.1)

  pub every_alike : (p q : A → Bool) (xs : List A) → ((x : A) → p x ≡ q x) → every p xs ≡ every q xs
  unfolding every
  every_alike p q [] h = refl
  every_alike p q (x ∷ xs) h = rw (h x, every_alike p q xs h)

  -- two that agree wherever a third holds
  module _ (known : A → Bool) where
    pub every_same : (p q : A → Bool) (xs : List A) → ((x : A) → known x ≡ true → p x ≡ q x) → every known xs ≡ true
        → every p xs ≡ every q xs
    unfolding every
    every_same p q [] h e = refl
    every_same p q (x ∷ xs) h e =
        let held = each_of (known x) (every known xs) e in
        rw (h x held.0, every_same p q xs h held.1)

    pub map_same : {B : Type 0} (f g : A → B) (xs : List A) → ((x : A) → known x ≡ true → f x ≡ g x) → every known xs ≡ true
        → map f xs ≡ map g xs
    unfolding every
    map_same f g [] h e = refl
    map_same f g (x ∷ xs) h e =
        let held = each_of (known x) (every known xs) e in
        rw (h x held.0, map_same f g xs h held.1)
