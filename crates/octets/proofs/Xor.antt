-- Laws of xor that the library lacks.
-- Assumes nothing.
use mathlib.Core.Path.{◌≡◌, refl, ap, sym, ◌∙◌}
use Prim.Native.Nat.{ℕ, zero, suc, ◌*◌, ◌/◌, ◌<◌}
use native.Mathlib.Nat.{zero-mul, one-mul}
use native.Mathlib.Omega.{arith}
use lib.Arith.{bin_ind}
use lib.Bits.{bit_xor, xor_add_and, xor_shr, xor_comm, xor_self, xor_zero_r}

xor_half : (a b : ℕ) → bit_xor a b / 2 ≡ bit_xor (a / 2) (b / 2)
xor_half a b = xor_shr a b 1

pub xor_assoc : (a b c : ℕ) → bit_xor (bit_xor a b) c ≡ bit_xor a (bit_xor b c)
xor_assoc = bin_ind (λ a. (b c : ℕ) → bit_xor (bit_xor a b) c ≡ bit_xor a (bit_xor b c)) (λ b c. refl) λ a ih b c.
    let halves : bit_xor (bit_xor a b) c / 2 ≡ bit_xor a (bit_xor b c) / 2 = simp xor_half (ih (b / 2) (c / 2)) in
    omega (arith, xor_add_and a b, xor_add_and b c, xor_add_and (bit_xor a b) c, xor_add_and a (bit_xor b c))

xor_left_comm : (a b c : ℕ) → bit_xor a (bit_xor b c) ≡ bit_xor b (bit_xor a c)
xor_left_comm a b c = sym (xor_assoc a b c) ∙ ap (λ (x : ℕ). bit_xor x c) (xor_comm a b) ∙ xor_assoc b a c

pub xor_turn : (p q r s : ℕ) → bit_xor (bit_xor (bit_xor p q) r) s ≡ bit_xor (bit_xor (bit_xor q r) s) p
xor_turn p q r s = simp (xor_assoc, xor_comm, xor_left_comm)

pub xor_exchange : (a b c d : ℕ) → bit_xor (bit_xor a b) (bit_xor c d) ≡ bit_xor (bit_xor a c) (bit_xor b d)
xor_exchange a b c d = simp (xor_assoc, xor_left_comm)

-- the sum of two bits, times a number
pub xor_mul : (p q z : ℕ) → p < 2 → q < 2 → bit_xor p q * z ≡ bit_xor (p * z) (q * z)
xor_mul zero q z h k = simp zero-mul
xor_mul (suc zero) zero z h k = simp (zero-mul, one-mul, xor_zero_r)
xor_mul (suc zero) (suc zero) z h k = simp (zero-mul, xor_self)
xor_mul (suc zero) (suc (suc q)) z h k = absurd (omega arith)
xor_mul (suc (suc p)) q z h k = absurd (omega arith)
