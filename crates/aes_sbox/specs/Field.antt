-- FIPS 197, section 4: a byte is a polynomial over GF(2), the coefficient of x^i in its bit i.
-- Assumes nothing.
use Rattle.std.specs.Prelude.{ℕ, zero, suc, ◌+◌, ◌*◌, ◌/◌, ◌%◌, ◌^◌, List, get_or}
use Rattle.std.specs.Int.Bits.{bit_xor}
use Rattle.octets.specs.Bytes.{tabulate}

-- bit i of a
abbrev pub bit : ℕ → ℕ → ℕ
bit a i = a / 2 ^ i % 2

-- the product of the polynomials a and b: the sum of a · x^i over the terms x^i of b, i below n
abbrev pub polynomial_product : ℕ → ℕ → ℕ → ℕ
polynomial_product zero a b = 0
polynomial_product (suc n) a b = bit_xor (bit b n * (a * 2 ^ n)) (polynomial_product n a b)

-- x^8 + x^4 + x^3 + x + 1
abbrev pub modulus : ℕ
modulus = 283

-- the remainder of a, of degree below 8 + n, modulo that polynomial
abbrev pub remainder : ℕ → ℕ → ℕ
remainder zero a = a
remainder (suc n) a = remainder n (bit_xor (bit a (8 + n) * (modulus * 2 ^ n)) a)

-- section 4.2: multiplication in GF(2^8)
unfoldable pub mul : ℕ → ℕ → ℕ
mul a b = remainder 7 (polynomial_product 8 a b)

-- a^2 · a^4 · .. · a^(2^n)
abbrev pub squares : ℕ → ℕ → ℕ
squares zero a = 1
squares (suc n) a = let q = mul a a in mul q (squares n q)

-- the multiplicative inverse, 0 for 0, as a^254: `inverse-right` and `inverse-only` of aes_sbox_laws show that it is one
unfoldable pub inverse : ℕ → ℕ
inverse a = squares 7 a

-- section 5.1.1: bit i of the affine map is b(i) + b(i + 4) + b(i + 5) + b(i + 6) + b(i + 7) + c(i), indices modulo 8, c = 63 hex
abbrev pub affine_bit : ℕ → ℕ → ℕ
affine_bit b i =
    (bit b i + bit b ((i + 4) % 8) + bit b ((i + 5) % 8) + bit b ((i + 6) % 8) + bit b ((i + 7) % 8) + bit 99 i) % 2

-- the n low bits of the affine map
abbrev pub affine_bits : ℕ → ℕ → ℕ
affine_bits zero b = 0
affine_bits (suc n) b = affine_bit b n * 2 ^ n + affine_bits n b

unfoldable pub affine : ℕ → ℕ
affine b = affine_bits 8 b

-- section 5.1.1: the S-box's rule
unfoldable pub substitution_value : ℕ → ℕ
substitution_value a = affine (inverse a)

-- the S-box: the substitution values of 0, 1, .., 255
unfoldable pub s_box : List ℕ
s_box = tabulate 256 0 substitution_value

unfoldable pub sub_byte : ℕ → ℕ
sub_byte a = get_or s_box a 0
