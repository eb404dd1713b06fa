-- Four bytes in a machine word, the first in its lowest place, for the contracts of inner functions.
-- Assumes nothing.
use Rattle.std.specs.Prelude.{ℕ, ◌/◌, ◌%◌, List, [], ◌∷◌, get_or}
use Rattle.aes_words.specs.Block.{word_at, joined}

-- the bytes of a machine word
unfoldable pub word_bytes : ℕ → List ℕ
word_bytes w = w % 256 ∷ w / 256 % 256 ∷ w / 65536 % 256 ∷ w / 16777216 % 256 ∷ []

-- the bytes of each of four machine words
unfoldable pub words_bytes : List ℕ → List (List ℕ)
words_bytes w = word_bytes (get_or w 0 0) ∷ word_bytes (get_or w 1 0) ∷ word_bytes (get_or w 2 0) ∷ word_bytes (get_or w 3 0) ∷ []

-- the bytes of a block, word by word
unfoldable pub block_words : List ℕ → List (List ℕ)
block_words b = word_at b 0 ∷ word_at b 1 ∷ word_at b 2 ∷ word_at b 3 ∷ []

-- the state whose columns are four machine words
abbrev pub state_bytes : List ℕ → List ℕ
state_bytes w = joined (words_bytes w)

-- four bytes one place on, the last to the front
abbrev pub rotated : List ℕ → List ℕ
rotated a = get_or a 3 0 ∷ get_or a 0 0 ∷ get_or a 1 0 ∷ get_or a 2 0 ∷ []
