-- A block is the list of its 16 bytes, four words of 4 bytes one after the other.
-- Assumes nothing.
use Rattle.std.specs.Prelude.{ℕ, ◌+◌, ◌*◌, List, [], ◌++◌, get_or}
use Rattle.std.specs.Int.Bits.{bit_xor}
use Rattle.octets.specs.Bytes.{tabulate}

-- the bytes f 0, .., f 15
abbrev pub block : (ℕ → ℕ) → List ℕ
block f = tabulate 16 0 f

-- two blocks, byte by byte: FIPS 197's AddRoundKey, RFC 4493's XOR
unfoldable pub xor_block : List ℕ → List ℕ → List ℕ
xor_block a b = block (λ i. bit_xor (get_or a i 0) (get_or b i 0))

-- word i of a list of bytes
abbrev pub word_at : List ℕ → ℕ → List ℕ
word_at k i = tabulate 4 0 (λ j. get_or k (4 * i + j) 0)

unfoldable pub xor_word : List ℕ → List ℕ → List ℕ
xor_word a b = tabulate 4 0 (λ j. bit_xor (get_or a j 0) (get_or b j 0))

-- the first four words, one after the other
abbrev pub joined : List (List ℕ) → List ℕ
joined w = get_or w 0 [] ++ (get_or w 1 [] ++ (get_or w 2 [] ++ get_or w 3 []))
