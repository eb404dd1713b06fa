-- The cipher by the round table is FIPS 197's.
-- Assumes nothing.
use mathlib.Core.Path.{◌≡◌, refl, ap, ap₂, ◌∙◌}
use mathlib.Core.List.{List, [], ◌∷◌}
use Prim.Native.Nat.{ℕ, zero, suc, ◌+◌, ◌*◌}
use native.Mathlib.Omega.{arith}
use lib.ListN.{get_or}
use Rattle.aes_words.specs.Block.{xor_block, xor_word, joined}
use Rattle.aes_sbox.specs.Field.{mul, s_box, sub_byte}
use Rattle.aes.specs.Cipher.{mixed_byte, sub_bytes, shift_rows, mix_columns, round, rounds, cipher}
use Rattle.aes_words.specs.Words.{block_words, rotated}
use Rattle.aes.specs.ByTable.{spreads, round_table, entry_of, substituted_by, column_by, last_column_by, columns, round_by, last_round_by, rounds_by, cipher_by}
use Rattle.octets.proofs.Xor.{xor_turn}
use Rattle.aes_words.proofs.WordBytes.{bytes_xor_of, bytes_rotate_8, bytes_rotate_16, bytes_rotate_24, xor_key_words}

abbrev spread : ℕ → List ℕ
spread s = mul 2 s ∷ s ∷ s ∷ mul 3 s ∷ []

entry_spreads : (l : List ℕ) (x : ℕ) → entry_of (spreads l) x ≡ spread (get_or l x 0)
unfolding mul
entry_spreads [] x = refl
entry_spreads (s ∷ l) zero = refl
entry_spreads (s ∷ l) (suc x) = rw (next 0, next 1, next 2, next 3) (entry_spreads l x)
  where
    next : (j : ℕ) → 4 * suc x + j ≡ suc (suc (suc (suc (4 * x + j))))
    next j = omega arith

entry_law : (x : ℕ) → entry_of round_table x ≡ spread (sub_byte x)
unfolding round_table sub_byte
entry_law x = entry_spreads s_box x

-- a column from four entries, each rotated to its place
abbrev combined : List ℕ → List ℕ → List ℕ → List ℕ → List ℕ
combined a b c d = xor_word (xor_word (xor_word a (rotated b)) (rotated (rotated c))) (rotated (rotated (rotated d)))

abbrev mixed_column : ℕ → ℕ → ℕ → ℕ → List ℕ
mixed_column a b c d = mixed_byte a b c d ∷ mixed_byte b c d a ∷ mixed_byte c d a b ∷ mixed_byte d a b c ∷ []

mixed : (a b c d : ℕ) → combined (spread a) (spread b) (spread c) (spread d) ≡ mixed_column a b c d
unfolding xor_word
mixed a b c d =
    let r1 = xor_turn a (mul 2 b) (mul 3 c) d in
    let r2 = xor_turn a b (mul 2 c) (mul 3 d) ∙ xor_turn b (mul 2 c) (mul 3 d) a in
    let r3 = xor_turn (mul 3 a) b c (mul 2 d) ∙ xor_turn b c (mul 2 d) (mul 3 a) ∙ xor_turn c (mul 2 d) (mul 3 a) b in
    λ i. mixed_byte a b c d ∷ r1 i ∷ r2 i ∷ r3 i ∷ []

column_law : (x0 x1 x2 x3 : ℕ) → column_by round_table x0 x1 x2 x3 ≡ mixed_column (sub_byte x0) (sub_byte x1) (sub_byte x2) (sub_byte x3)
unfolding column_by
column_law x0 x1 x2 x3 =
    (λ i. combined (entry_law x0 i) (entry_law x1 i) (entry_law x2 i) (entry_law x3 i)) ∙ mixed (sub_byte x0) (sub_byte x1) (sub_byte x2) (sub_byte x3)

substituted_law : (x : ℕ) → substituted_by round_table x ≡ sub_byte x
substituted_law x = ap (λ (l : List ℕ). get_or l 1 0) (entry_law x)

last_column_law : (x0 x1 x2 x3 : ℕ) → last_column_by round_table x0 x1 x2 x3 ≡ sub_byte x0 ∷ sub_byte x1 ∷ sub_byte x2 ∷ sub_byte x3 ∷ []
unfolding last_column_by
last_column_law x0 x1 x2 x3 = λ i. substituted_law x0 i ∷ substituted_law x1 i ∷ substituted_law x2 i ∷ substituted_law x3 i ∷ []

-- two ways to work on a column, which agree, give the same state
columns_same : (f g : ℕ → ℕ → ℕ → ℕ → List ℕ) → ((a b c d : ℕ) → f a b c d ≡ g a b c d) → (s : List ℕ) → columns f s ≡ columns g s
columns_same f g p s = λ i. columns (λ a b c d. p a b c d i) s

round_law : (s k : List ℕ) → round_by round_table s k ≡ round s k
unfolding round_by round mix_columns shift_rows sub_bytes
round_law s k = ap (λ (l : List ℕ). xor_block l k) (columns_same _ (λ a b c d. mixed_column (sub_byte a) (sub_byte b) (sub_byte c) (sub_byte d)) column_law s)

last_round_law : (s k : List ℕ) → last_round_by round_table s k ≡ xor_block (shift_rows (sub_bytes s)) k
unfolding last_round_by shift_rows sub_bytes
last_round_law s k = ap (λ (l : List ℕ). xor_block l k) (columns_same _ (λ a b c d. sub_byte a ∷ sub_byte b ∷ sub_byte c ∷ sub_byte d ∷ []) last_column_law s)

rounds_law : (w : List (List ℕ)) (s : List ℕ) (n : ℕ) → rounds_by round_table w s n ≡ rounds w s n
unfolding rounds_by
rounds_law w s zero = refl
rounds_law w s (suc n) = round_law _ _ ∙ ap (λ (l : List ℕ). round l (get_or w (suc n) [])) (rounds_law w s n)

cipher_law : (w : List (List ℕ)) (b : List ℕ) → cipher_by round_table w b ≡ cipher w b
unfolding cipher_by cipher
cipher_law w b = last_round_law _ _ ∙ ap (λ (l : List ℕ). xor_block (shift_rows (sub_bytes l)) (get_or w 10 [])) (rounds_law w _ 9)

pub cipher_by_table : {t : List ℕ} {v w : List (List ℕ)} → t ≡ round_table → v ≡ w → cipher_by t v ≡ cipher w
cipher_by_table {t} {v} {w} p q = ap₂ cipher_by p q ∙ (λ i b. cipher_law w b i)

-- a block that is taken word by word
pub cipher_words : (t : List ℕ) (w : List (List ℕ)) (b : List ℕ) → cipher_by t w (joined (block_words b)) ≡ cipher_by t w b
unfolding cipher_by xor_block block_words
cipher_words t w b = refl

-- a round of a state that is known
pub round_of : (t k : List ℕ) {s a b : List ℕ} → s ≡ round_by t a k → a ≡ b → s ≡ round_by t b k
round_of t k p q = p ∙ ap (λ (x : List ℕ). round_by t x k) q

pub last_round_of : (t k : List ℕ) {s a b : List ℕ} → s ≡ last_round_by t a k → a ≡ b → s ≡ last_round_by t b k
last_round_of t k p q = p ∙ ap (λ (x : List ℕ). last_round_by t x k) q

-- what a column's code needs; what the code of all rounds needs
pub ruleset by_column = (bytes_xor_of, bytes_rotate_8, bytes_rotate_16, bytes_rotate_24)

pub ruleset by_round = (xor_key_words, round_of, last_round_of)
