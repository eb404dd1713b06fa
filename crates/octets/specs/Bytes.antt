-- Lists of bytes: written out by a rule, and as big-endian numbers.
-- Assumes nothing.
use Rattle.std.specs.Prelude.{ℕ, zero, suc, ◌+◌, ◌*◌, ◌/◌, ◌%◌, List, [], ◌∷◌, get_or}

-- f i, f (i + 1), .., n of them
abbrev pub tabulate : ℕ → ℕ → (ℕ → ℕ) → List ℕ
tabulate zero i f = []
tabulate (suc n) i f = f i ∷ tabulate n (suc i) f

-- the number of two bytes, the high one first
abbrev pub from_be16 : ℕ → ℕ → ℕ
from_be16 high low = high * 256 + low

-- the number of 16 or of 32 bits at a place of a list; a byte past the end counts as 0
abbrev pub be16_at : List ℕ → ℕ → ℕ
be16_at l i = from_be16 (get_or l i 0) (get_or l (i + 1) 0)

abbrev pub be32_at : List ℕ → ℕ → ℕ
be32_at l i = be16_at l i * 65536 + from_be16 (get_or l (i + 2) 0) (get_or l (i + 3) 0)

-- the bytes of a number of 16 and of 32 bits
abbrev pub be16 : ℕ → List ℕ
be16 x = x / 256 ∷ x % 256 ∷ []

abbrev pub be32 : ℕ → List ℕ
be32 x = x / 16777216 ∷ x / 65536 % 256 ∷ x / 256 % 256 ∷ x % 256 ∷ []
