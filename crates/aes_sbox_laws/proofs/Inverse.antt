-- The inverse of each byte but 0 is a byte, its product with that byte is 1, and no other byte's is.
-- Assumes nothing.
use mathlib.Core.Path.{◌≡◌, refl, ap, ap₂, sym, ◌∙◌}
use mathlib.Core.List.{List, ◌∷◌}
use Prim.Native.Nat.{ℕ, zero, suc, ◌+◌, ◌*◌, ◌^◌, ◌/◌, ◌<◌}
use native.Mathlib.Nat.{le_of_suc-le-suc, le_step, lt-suc_self, zero-mul, one-mul}
use native.Mathlib.Omega.{arith}
use lib.Bits.{bit_xor, xor_self, xor_shr, xor_mod}
use Rattle.aes_sbox.specs.Field.{bit, polynomial_product, modulus, remainder, mul, inverse}
use Rattle.octets.proofs.Below.{values, same_below}
use Rattle.octets.proofs.Xor.{xor_exchange, xor_mul}

-- a map that keeps sums
record Additive (f : ℕ → ℕ) : Type 0 where
  keeps : (a b : ℕ) → f (bit_xor a b) ≡ bit_xor (f a) (f b)

identity : Additive (λ a. a)
identity = record { keeps = λ a b. refl }

after : {f g : ℕ → ℕ} → Additive f → Additive g → Additive (λ a. f (g a))
after {f} {g} p q = record { keeps = λ a b. ap f (q.keeps a b) ∙ p.keeps (g a) (g b) }

sum : {f g : ℕ → ℕ} → Additive f → Additive g → Additive (λ a. bit_xor (f a) (g a))
sum {f} {g} p q = record { keeps = λ a b. ap₂ bit_xor (p.keeps a b) (q.keeps a b) ∙ xor_exchange (f a) (f b) (g a) (g b) }

term : (i z : ℕ) → Additive (λ a. bit a i * z)
term i z = record {
  keeps = λ a b.
      rw (xor_shr, xor_mod (a / 2 ^ i) (b / 2 ^ i) 1) (xor_mul (bit a i) (bit b i) z (omega arith) (omega arith));
}

product_additive : (n a : ℕ) → Additive (polynomial_product n a)
product_additive zero a = record { keeps = λ b c. refl }
product_additive (suc n) a = sum (term n (a * 2 ^ n)) (product_additive n a)

remainder_additive : (n : ℕ) → Additive (remainder n)
remainder_additive zero = identity
remainder_additive (suc n) = after (remainder_additive n) (sum (term (8 + n) (modulus * 2 ^ n)) identity)

mul_additive : (a : ℕ) → Additive (mul a)
unfolding mul
mul_additive a = after (remainder_additive 7) (product_additive 8 a)

-- an additive map that fixes 1, 2, 4, .., 128 fixes every byte; `polynomial_product n 1 y` is the sum of the n low terms of y
module _ {f : ℕ → ℕ} (p : Additive f) where
  zero_fixed : f 0 ≡ 0
  zero_fixed = p.keeps 0 0 ∙ xor_self (f 0)

  term_fixed : (d t : ℕ) → d < 2 → f t ≡ t → f (d * t) ≡ d * t
  term_fixed zero t h e = simp zero-mul zero_fixed
  term_fixed (suc zero) t h e = simp one-mul e
  term_fixed (suc (suc d)) t h e = absurd (omega arith)

  product_fixed : (n y : ℕ) → ((k : ℕ) → k < n → f (2 ^ k) ≡ 2 ^ k) → f (polynomial_product n 1 y) ≡ polynomial_product n 1 y
  product_fixed zero y e = zero_fixed
  product_fixed (suc n) y e =
      p.keeps (bit y n * (1 * 2 ^ n)) (polynomial_product n 1 y)
      ∙ ap₂ bit_xor (term_fixed (bit y n) (1 * 2 ^ n) (omega arith) (simp one-mul (e n (lt-suc_self n))))
      (product_fixed n y (λ k h. e k (le_step h)))

  byte_fixed : ((k : ℕ) → k < 8 → f (2 ^ k) ≡ 2 ^ k) → (y : ℕ) → y < 256 → f y ≡ y
  byte_fixed e y h = rw (same_below 256 (polynomial_product 8 1) (λ y. y) refl y h) at (product_fixed 8 y e)

-- as expected: i is a byte, x · i is 1, and to multiply by x and then by i keeps 1, 2, 4, .., 128
results : ℕ → ℕ → List ℕ
results x i = i / 256 ∷ mul x i ∷ values 8 (λ k. mul i (mul x (2 ^ k)))

expected : List ℕ
expected = 0 ∷ 1 ∷ values 8 (λ k. 2 ^ k)

module _ (x : ℕ) (h : suc x < 256) where
  tested : results (suc x) (inverse (suc x)) ≡ expected
  unfolding results expected mul inverse
  tested = same_below 255 (λ x. results (suc x) (inverse (suc x))) (λ x. expected) refl x (le_of_suc-le-suc h)

  byte : inverse (suc x) < 256
  unfolding results expected
  byte = let e : inverse (suc x) / 256 ≡ 0 = cc tested in omega arith

  one : mul (suc x) (inverse (suc x)) ≡ 1
  unfolding results expected
  one = cc tested

  undone : (y : ℕ) → y < 256 → mul (inverse (suc x)) (mul (suc x) y) ≡ y
  unfolding results expected
  undone =
      byte_fixed (after (mul_additive (inverse (suc x))) (mul_additive (suc x)))
      (same_below 8 (λ k. mul (inverse (suc x)) (mul (suc x) (2 ^ k))) (λ k. 2 ^ k) (cc tested))

pub inverse_zero : inverse 0 ≡ 0
unfolding inverse mul
inverse_zero = refl

pub inverse_byte : (x : ℕ) → x < 256 → inverse x < 256
inverse_byte zero h = rw inverse_zero h
inverse_byte (suc x) h = byte x h

pub inverse_right : (x : ℕ) → 0 < x → x < 256 → mul x (inverse x) ≡ 1
inverse_right zero p h = absurd (omega arith)
inverse_right (suc x) p h = one x h

pub inverse_only : (x y : ℕ) → x < 256 → y < 256 → mul x y ≡ 1 → y ≡ inverse x
unfolding mul
inverse_only zero y h k e = absurd (omega (arith, same_below 256 (mul 0) (λ y. 0) refl y k))
inverse_only (suc x) y h k e =
    sym (undone x h y k) ∙ ap (mul (inverse (suc x))) (e ∙ sym (one x h)) ∙ undone x h (inverse (suc x)) (byte x h)
