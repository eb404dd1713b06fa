-- RFC 4493's subkey step, on the number that a block is: doubling modulo 2^128, then xor 87 hex if the top bit was set.
-- Assumes nothing.
use Prim.Native.Nat.{ℕ, zero, suc, ◌+◌, ◌*◌, ◌/◌, ◌%◌, ◌^◌, ◌<◌}
use mathlib.Core.Path.{◌≡◌, refl, sym, ap, ◌∙◌}
use mathlib.Core.Bool.{Bool, true, false, cond}
use mathlib.Core.List.{List, [], ◌∷◌}
use native.Mathlib.Nat.{add-zero, mul-suc, pow-suc, pow-succ'}
use native.Mathlib.Numerals.{add-one}
use native.Mathlib.Omega.{arith}
use lib.Arith.{digits_lt, digits_div, digits_mod}
use lib.Bits.{bit_xor, xor_block as xor_of_parts}
use lib.Dec.{eqb, ltb}
use lib.ListN.{length, get_or, get_or-eq_default}
use lib.Pow.{pow-add}
use borrow.Author.Tests.{lt-ltb, le-ltb, ltb-false}
use Rattle.std.specs.Int.{w128, byte_at, bytes_high_first, to_be_bytes, from_be_bytes}
use Rattle.octets.specs.Bytes.{tabulate}
use Rattle.aes_words.specs.Block.{xor_block}
use Rattle.cmac.specs.Cmac.{const_rb, carry_into, shift_left, doubled}
use Rattle.octets.proofs.Lists.{length_tabulate, tabulate_get_or}

-- the number that a list of bytes is, the most significant first
unfoldable pub number : List ℕ → ℕ
number [] = 0
number (x ∷ xs) = x * 256 ^ length xs + number xs

-- a list of 16 bytes
pub record Block (l : List ℕ) : Type 0 where
  pub size : length l ≡ 16
  pub bytes : (i : ℕ) → get_or l i 0 < 256

-- ---- the numbers of tabulated lists

number_suc : (f : ℕ → ℕ) (n i : ℕ) → number (tabulate (suc n) i f) ≡ f i * 256 ^ n + number (tabulate n (suc i) f)
unfolding number
number_suc f n i = rw (length_tabulate f n (suc i))

number_lt : (f : ℕ → ℕ) → ((i : ℕ) → f i < 256) → (n i : ℕ) → number (tabulate n i f) < 256 ^ n
unfolding number
number_lt f h zero i = omega arith
number_lt f h (suc n) i = rw (number_suc f n i, pow-succ') (digits_lt (h i) (number_lt f h n (suc i)))

pow_256 : (n : ℕ) → 256 ^ n ≡ 2 ^ (8 * n)
pow_256 zero = refl
pow_256 (suc n) = rw (pow-suc 256 n, mul-suc 8 n, pow-add, pow_256 n)

-- xor byte by byte is xor
number_xor : (f g : ℕ → ℕ) → ((i : ℕ) → f i < 256) → ((i : ℕ) → g i < 256) → (n i : ℕ)
    → number (tabulate n i (λ j. bit_xor (f j) (g j))) ≡ bit_xor (number (tabulate n i f)) (number (tabulate n i g))
unfolding number
number_xor f g hf hg zero i = refl
number_xor f g hf hg (suc n) i =
    rw (number_suc f n i, number_suc g n i, number_suc (λ j. bit_xor (f j) (g j)) n i, number_xor f g hf hg n (suc i), pow_256)
    (sym (xor_of_parts (8 * n) (f i) (g i) _ _ (rw pow_256 at (number_lt f hf n (suc i))) (rw pow_256 at (number_lt g hg n (suc i)))))

-- g: each byte of f shifted left by one bit, the next byte's top bit put in below
number_shift : (f g : ℕ → ℕ) → ((i : ℕ) → f i / 128 * 256 + g i ≡ f i * 2 + f (suc i) / 128) → (n i : ℕ)
    → f i / 128 * 256 ^ n + number (tabulate n i g) ≡ number (tabulate n i f) * 2 + f (i + n) / 128
unfolding number
number_shift f g h zero i = rw (add-zero i) (omega arith)
number_shift f g h (suc n) i =
    let e : i + suc n ≡ suc i + n = omega arith in
    rw (number_suc f n i, number_suc g n i, pow-suc, e)
    (omega (arith, number_shift f g h n (suc i), ap (λ (x : ℕ). x * 256 ^ n) (h i)))

-- ---- a block as the library reads and writes it

byte_at_div : (n m : ℕ) → byte_at n m ≡ m / 256 ^ n % 256
byte_at_div zero m = omega arith
byte_at_div (suc n) m = refl

-- whatever stands above, the lowest n bytes are those of the list
low_bytes : (f : ℕ → ℕ) → ((i : ℕ) → f i < 256) → (n i above : ℕ)
    → bytes_high_first n (above * 256 ^ n + number (tabulate n i f)) ≡ tabulate n i f
low_bytes f h zero i above = refl
low_bytes f h (suc n) i above =
    let e : above * 256 ^ suc n + number (tabulate (suc n) i f) ≡ (above * 256 + f i) * 256 ^ n + number (tabulate n (suc i) f) =
    rw (number_suc f n i, pow-suc 256 n) (omega arith) in
    let top : (above * 256 + f i) % 256 ≡ f i = digits_mod above (h i) in
    rw (e, byte_at_div n _, digits_div (above * 256 + f i) (number_lt f h n (suc i)), top, low_bytes f h n (suc i) (above * 256 + f i))

written : (f : ℕ → ℕ) → ((i : ℕ) → f i < 256) → to_be_bytes w128 (number (tabulate 16 0 f)) ≡ tabulate 16 0 f
written f h =
    let e : number (tabulate 16 0 f) ≡ 0 * 256 ^ 16 + number (tabulate 16 0 f) = omega arith in
    ap (bytes_high_first 16) e ∙ low_bytes f h 16 0 0

read : (l : List ℕ) → length l ≡ 16 → from_be_bytes w128 l ≡ number l
unfolding number
read l e =
    let sum : number (tabulate 16 0 (λ j. get_or l j 0)) ≡ from_be_bytes w128 l = omega arith in
    sym sum ∙ ap number (tabulate_get_or l 16 0 (sym e))

-- ---- the theorems

-- v has its top bit set, that is, v is at least h, if its first byte x is at least 128
top_bit : (s t : List ℕ) (x v h : ℕ) → x < 256 → number s < h * 2 → (q : ℕ) → x / 128 ≡ q → q * (h * 2) + number s ≡ v * 2
    → number (cond (ltb x 128) s t) ≡ cond (ltb v h) (v * 2) (number t)
top_bit s t x v h b l zero d e = rw (lt-ltb x 128 (omega arith), lt-ltb v h (omega arith)) (omega arith)
top_bit s t x v h b l (suc zero) d e = rw (le-ltb x 128 (omega arith), le-ltb v h (omega arith))
top_bit s t x v h b l (suc (suc q)) d e = absurd (omega arith)

module _ (l : List ℕ) (b : Block l) where
  carry : (i : ℕ) → carry_into l i ≡ get_or l (suc i) 0 / 128
  carry i = go (ltb i 15) refl
    where
      go : (t : Bool) → ltb i 15 ≡ t → cond t (get_or l (i + 1) 0 / 128) 0 ≡ get_or l (suc i) 0 / 128
      go true e = rw add-one
      go false e = rw (get_or-eq_default l 0 {n = suc i} (omega (arith, b.size, ltb-false i 15 e)))

  byte_lt : (i : ℕ) → get_or l i 0 * 2 % 256 + carry_into l i < 256
  byte_lt i = omega (arith, carry i, b.bytes (suc i))

  shift_lt : number (shift_left l) < 2 ^ 128
  unfolding shift_left
  shift_lt = number_lt _ byte_lt 16 0

  shift_carry : get_or l 0 0 / 128 * 2 ^ 128 + number (shift_left l) ≡ number l * 2
  unfolding shift_left
  shift_carry =
      rw (tabulate_get_or l 16 0 (sym b.size), get_or-eq_default l 0 {n = 16} (omega (arith, b.size)), add-zero (number l * 2))
      at (number_shift (λ i. get_or l i 0) (λ i. get_or l i 0 * 2 % 256 + carry_into l i) (λ i. omega (arith, carry i)) 16 0)

  pub shift_doubles : number (shift_left l) ≡ number l * 2 % 2 ^ 128
  shift_doubles = rw (← shift_carry) (sym (digits_mod (get_or l 0 0 / 128) shift_lt))

  xor_rb : number (xor_block (shift_left l) const_rb) ≡ bit_xor (number (shift_left l)) 135
  unfolding number shift_left xor_block
  xor_rb = number_xor _ (λ i. cond (eqb i 15) 135 0) byte_lt (λ i. small (eqb i 15)) 16 0
    where
      small : (t : Bool) → cond t 135 0 < 256
      small true = omega arith
      small false = omega arith

  pub doubled_number : number (doubled l) ≡ cond (ltb (number l) (2 ^ 127)) (number l * 2) (bit_xor (number l * 2 % 2 ^ 128) 135)
  unfolding doubled
  doubled_number =
      rw (← shift_doubles, ← xor_rb) (top_bit (shift_left l) _ (get_or l 0 0) (number l) (2 ^ 127) (b.bytes 0) shift_lt _ refl shift_carry)

-- the shift as the code does it
pub shift_written : (l : List ℕ) → length l ≡ 16 → ((i : ℕ) → get_or l i 0 < 256) → to_be_bytes w128 (from_be_bytes w128 l * 2 % 2 ^ 128) ≡ shift_left l
unfolding shift_left
shift_written l size bytes =
    let b : Block l = record { size = size; bytes = bytes } in
    ap (to_be_bytes w128) (ap (λ (n : ℕ). n * 2 % 2 ^ 128) (read l size) ∙ sym (shift_doubles l b)) ∙ written _ (byte_lt l b)
