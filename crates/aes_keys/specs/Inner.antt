-- A round key from the one before, for the contracts of inner functions.
-- Assumes nothing.
use Rattle.std.specs.Prelude.{ℕ, List, [], ◌∷◌, get_or}
use Rattle.aes_words.specs.Block.{xor_word}
use Rattle.aes_keys.specs.KeyExpansion.{rot_word, sub_word}

-- FIPS 197, section 5.2: the words w[i], .., w[i + 3] from w[i - 4], .., w[i - 1], i a multiple of 4, and Rcon[i / 4]
unfoldable pub next_words : List ℕ → List (List ℕ) → List (List ℕ)
next_words rc w =
    let a = xor_word (get_or w 0 []) (xor_word (sub_word (rot_word (get_or w 3 []))) rc) in
    let b = xor_word (get_or w 1 []) a in
    let c = xor_word (get_or w 2 []) b in
    let d = xor_word (get_or w 3 []) c in
    a ∷ b ∷ c ∷ d ∷ []
