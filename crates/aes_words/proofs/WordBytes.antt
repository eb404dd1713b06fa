-- The bytes of a machine word: of a sum of four bytes, of a rotated word, of an xor.
-- Assumes nothing.
use mathlib.Core.Path.{◌≡◌, refl, ap, ap₂, ◌∙◌}
use mathlib.Core.List.{List, [], ◌∷◌, ◌++◌}
use Prim.Native.Nat.{ℕ, ◌+◌, ◌*◌, ◌/◌, ◌%◌, ◌^◌, ◌<◌}
use native.Mathlib.Omega.{arith}
use lib.Bits.{bit_or, bit_xor, or_shifted, xor_shr, xor_mod}
use lib.ListN.{get_or}
use Rattle.std.specs.Int.{w32, rotate_left}
use Rattle.aes_words.specs.Block.{xor_block, xor_word, joined}
use Rattle.aes_words.specs.Words.{word_bytes, words_bytes, state_bytes, block_words, rotated}

pub bytes_eq : (w : ℕ) {a b c d : ℕ} → w % 256 ≡ a → w / 256 % 256 ≡ b → w / 65536 % 256 ≡ c → w / 16777216 % 256 ≡ d
    → word_bytes w ≡ a ∷ b ∷ c ∷ d ∷ []
unfolding word_bytes
bytes_eq w p q r s = λ i. p i ∷ q i ∷ r i ∷ s i ∷ []

pub bytes_pack : (a b c d : ℕ) → a < 256 → b < 256 → c < 256 → d < 256
    → word_bytes (a + b * 256 + c * 65536 + d * 16777216) ≡ a ∷ b ∷ c ∷ d ∷ []
bytes_pack a b c d ha hb hc hd =
    bytes_eq (a + b * 256 + c * 65536 + d * 16777216) (omega arith) (omega arith) (omega arith) (omega arith)

-- w as a sum of four bytes; the sum, rotated
parts : (w : ℕ) → w < 4294967296
    → w ≡ w % 256 + w / 256 % 256 * 256 + w / 65536 % 256 * 65536 + w / 16777216 % 256 * 16777216
parts w h =
    let d2 : w / 65536 ≡ w / 256 / 256 = omega arith in
    let d3 : w / 16777216 ≡ w / 65536 / 256 = omega arith in
    let d4 : w / 16777216 % 256 ≡ w / 16777216 = omega arith in
    omega arith

-- `rotate_left` by one, two or three bytes
rotate_sum : (k w low : ℕ) {x : ℕ} → low < 2 ^ k → x ≡ w * 2 ^ k → bit_or x low ≡ w * 2 ^ k + low
rotate_sum k w low b e = rw e (or_shifted w k low b)

module _ (w : ℕ) (h : w < 4294967296) where
  pub bytes_rotate_8 : word_bytes (rotate_left w32 w 8) ≡ rotated (word_bytes w)
  unfolding word_bytes
  bytes_rotate_8 =
      let e : rotate_left w32 w 8 ≡ w % 16777216 * 256 + w / 16777216 = rotate_sum 8 (w % 16777216) (w / 16777216) (omega arith) (omega arith) in
      let p = parts w h in
      let s : rotate_left w32 w 8 ≡ w / 16777216 % 256 + w % 256 * 256 + w / 256 % 256 * 65536 + w / 65536 % 256 * 16777216 = omega arith in
      rw s (bytes_pack (w / 16777216 % 256) (w % 256) (w / 256 % 256) (w / 65536 % 256) (omega arith) (omega arith) (omega arith) (omega arith))

  pub bytes_rotate_16 : word_bytes (rotate_left w32 w 16) ≡ rotated (rotated (word_bytes w))
  unfolding word_bytes
  bytes_rotate_16 =
      let e : rotate_left w32 w 16 ≡ w % 65536 * 65536 + w / 65536 = rotate_sum 16 (w % 65536) (w / 65536) (omega arith) (omega arith) in
      let p = parts w h in
      let s : rotate_left w32 w 16 ≡ w / 65536 % 256 + w / 16777216 % 256 * 256 + w % 256 * 65536 + w / 256 % 256 * 16777216 = omega arith in
      rw s (bytes_pack (w / 65536 % 256) (w / 16777216 % 256) (w % 256) (w / 256 % 256) (omega arith) (omega arith) (omega arith) (omega arith))

  pub bytes_rotate_24 : word_bytes (rotate_left w32 w 24) ≡ rotated (rotated (rotated (word_bytes w)))
  unfolding word_bytes
  bytes_rotate_24 =
      let e : rotate_left w32 w 24 ≡ w % 256 * 16777216 + w / 256 = rotate_sum 24 (w % 256) (w / 256) (omega arith) (omega arith) in
      let p = parts w h in
      let s : rotate_left w32 w 24 ≡ w / 256 % 256 + w / 65536 % 256 * 256 + w / 16777216 % 256 * 65536 + w % 256 * 16777216 = omega arith in
      rw s (bytes_pack (w / 256 % 256) (w / 65536 % 256) (w / 16777216 % 256) (w % 256) (omega arith) (omega arith) (omega arith) (omega arith))

bytes_xor : (x y : ℕ) → word_bytes (bit_xor x y) ≡ xor_word (word_bytes x) (word_bytes y)
unfolding word_bytes xor_word
bytes_xor x y =
    bytes_eq (bit_xor x y) (xor_mod x y 8)
    (ap (λ (n : ℕ). n % 256) (xor_shr x y 8) ∙ xor_mod (x / 256) (y / 256) 8)
    (ap (λ (n : ℕ). n % 256) (xor_shr x y 16) ∙ xor_mod (x / 65536) (y / 65536) 8)
    (ap (λ (n : ℕ). n % 256) (xor_shr x y 24) ∙ xor_mod (x / 16777216) (y / 16777216) 8)

-- two words of known bytes
pub bytes_xor_of : (x y : ℕ) {a b : List ℕ} → word_bytes x ≡ a → word_bytes y ≡ b → word_bytes (bit_xor x y) ≡ xor_word a b
bytes_xor_of x y p q = bytes_xor x y ∙ ap₂ xor_word p q

-- a state of four words of known bytes
pub state_of_lem : (a b c d : ℕ) {p q r s : List ℕ} → word_bytes a ≡ p → word_bytes b ≡ q → word_bytes c ≡ r → word_bytes d ≡ s
    → state_bytes (a ∷ b ∷ c ∷ d ∷ []) ≡ p ++ (q ++ (r ++ s))
unfolding words_bytes
state_of_lem a b c d p q r s = λ i. p i ++ (q i ++ (r i ++ s i))

pub state_xor : (a b : List ℕ)
    → state_bytes (bit_xor (get_or a 0 0) (get_or b 0 0) ∷ bit_xor (get_or a 1 0) (get_or b 1 0) ∷ bit_xor (get_or a 2 0) (get_or b 2 0) ∷ bit_xor (get_or a 3 0) (get_or b 3 0) ∷ [])
    ≡ xor_block (state_bytes a) (state_bytes b)
unfolding xor_block xor_word words_bytes word_bytes
state_xor a b =
    state_of_lem _ _ _ _ (bytes_xor (get_or a 0 0) (get_or b 0 0)) (bytes_xor (get_or a 1 0) (get_or b 1 0)) (bytes_xor (get_or a 2 0) (get_or b 2 0))
    (bytes_xor (get_or a 3 0) (get_or b 3 0))

-- a block that is taken word by word is xored as it is
pub xor_words : (a b : List ℕ) → xor_block (joined (block_words a)) (joined (block_words b)) ≡ xor_block a b
unfolding xor_block block_words
xor_words a b = refl

pub xor_key_words : (s k : List ℕ) → xor_block s (joined (block_words k)) ≡ xor_block s k
unfolding xor_block block_words
xor_key_words s k = refl
