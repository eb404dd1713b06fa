-- The cipher with a lent table of four bytes for each byte: the caller gives it, with any content. With `round_table` it is FIPS 197's
-- (`FastCipher.cipher-by-table`).
-- Assumes nothing.
use Rattle.std.specs.Prelude.{ℕ, zero, suc, ◌+◌, ◌*◌, List, [], ◌∷◌, ◌++◌, get_or}
use Rattle.octets.specs.Bytes.{tabulate}
use Rattle.aes_sbox.specs.Field.{mul, s_box}
use Rattle.aes_words.specs.Block.{xor_block, xor_word}
use Rattle.aes_words.specs.Words.{rotated}
use Rattle.aes.specs.Cipher.{cell}

-- for each byte of a list what it adds, as a substituted byte of row 0, to its mixed column
abbrev pub spreads : List ℕ → List ℕ
spreads [] = []
spreads (s ∷ l) = mul 2 s ∷ s ∷ s ∷ mul 3 s ∷ spreads l

-- the table of the S-box
unfoldable pub round_table : List ℕ
round_table = spreads s_box

-- a table's four bytes for x
abbrev pub entry_of : List ℕ → ℕ → List ℕ
entry_of table x = tabulate 4 0 (λ j. get_or table (4 * x + j) 0)

-- a column of a full round, from the bytes that ShiftRows brings into it
unfoldable pub column_by : List ℕ → ℕ → ℕ → ℕ → ℕ → List ℕ
column_by table x0 x1 x2 x3 =
    xor_word
    (xor_word (xor_word (entry_of table x0) (rotated (entry_of table x1))) (rotated (rotated (entry_of table x2))))
    (rotated (rotated (rotated (entry_of table x3))))

-- an entry's second byte, the substituted byte itself
abbrev pub substituted_by : List ℕ → ℕ → ℕ
substituted_by table x = get_or table (4 * x + 1) 0

-- a column of the last round, which does not mix
unfoldable pub last_column_by : List ℕ → ℕ → ℕ → ℕ → ℕ → List ℕ
last_column_by table x0 x1 x2 x3 = substituted_by table x0 ∷ substituted_by table x1 ∷ substituted_by table x2 ∷ substituted_by table x3 ∷ []

-- column c of the state after f has worked on what ShiftRows brings into it; the four of them
abbrev pub column_of : (ℕ → ℕ → ℕ → ℕ → List ℕ) → List ℕ → ℕ → List ℕ
column_of f s c = f (cell s 0 c) (cell s 1 (c + 1)) (cell s 2 (c + 2)) (cell s 3 (c + 3))

abbrev pub columns : (ℕ → ℕ → ℕ → ℕ → List ℕ) → List ℕ → List ℕ
columns f s = column_of f s 0 ++ (column_of f s 1 ++ (column_of f s 2 ++ column_of f s 3))

unfoldable pub round_by : List ℕ → List ℕ → List ℕ → List ℕ
round_by table s k = xor_block (columns (column_by table) s) k

unfoldable pub last_round_by : List ℕ → List ℕ → List ℕ → List ℕ
last_round_by table s k = xor_block (columns (last_column_by table) s) k

unfoldable pub rounds_by : List ℕ → List (List ℕ) → List ℕ → ℕ → List ℕ
rounds_by table w s zero = s
rounds_by table w s (suc n) = round_by table (rounds_by table w s n) (get_or w (suc n) [])

unfoldable pub cipher_by : List ℕ → List (List ℕ) → List ℕ → List ℕ
cipher_by table w block = last_round_by table (rounds_by table w (xor_block block (get_or w 0 [])) 9) (get_or w 10 [])
