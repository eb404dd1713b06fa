-- FIPS 197, section 5.2, for AES-128: 44 words w[0], .., w[43], each the list of its 4 bytes.
-- Assumes nothing.
use Rattle.std.specs.Prelude.{ℕ, zero, suc, ◌+◌, ◌/◌, ◌%◌, cond, List, [], ◌∷◌, eqb, get_or, drop}
use Rattle.octets.specs.Bytes.{tabulate}
use Rattle.aes_sbox.specs.Field.{mul, sub_byte}
use Rattle.aes_words.specs.Block.{word_at, xor_word, joined}

unfoldable pub rot_word : List ℕ → List ℕ
rot_word a = tabulate 4 0 (λ j. get_or a ((j + 1) % 4) 0)

unfoldable pub sub_word : List ℕ → List ℕ
sub_word a = tabulate 4 0 (λ j. sub_byte (get_or a j 0))

-- Rcon[j] is x^(j - 1) in the field and three zero bytes
abbrev pub rcon_byte : ℕ → ℕ
rcon_byte zero = 0
rcon_byte (suc zero) = 1
rcon_byte (suc (suc j)) = mul 2 (rcon_byte (suc j))

abbrev pub rcon : ℕ → List ℕ
rcon j = rcon_byte j ∷ 0 ∷ 0 ∷ 0 ∷ []

-- temp: w[i - 1], through RotWord, SubWord and Rcon[i / 4] where i is a multiple of 4
abbrev pub temp : ℕ → List ℕ → List ℕ
temp i a = cond (eqb (i % 4) 0) (xor_word (sub_word (rot_word a)) (rcon (i / 4))) a

-- the n words from w[i - 4] = a on, b, c and d the next three: w[i] = w[i - 4] xor temp
abbrev pub words_from : ℕ → ℕ → List ℕ → List ℕ → List ℕ → List ℕ → List (List ℕ)
words_from zero i a b c d = []
words_from (suc n) i a b c d = a ∷ words_from n (suc i) b c d (xor_word a (temp i d))

unfoldable pub key_expansion : List ℕ → List (List ℕ)
key_expansion key = words_from 44 4 (word_at key 0) (word_at key 1) (word_at key 2) (word_at key 3)

-- n round keys, each of four words
abbrev pub by_fours : ℕ → List (List ℕ) → List (List ℕ)
by_fours zero w = []
by_fours (suc n) w = joined w ∷ by_fours n (drop 4 w)

-- the eleven round keys
unfoldable pub round_keys : List ℕ → List (List ℕ)
round_keys key = by_fours 11 (key_expansion key)
