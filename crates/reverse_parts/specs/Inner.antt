-- For the contracts of inner functions.
-- Assumes nothing.
use Rattle.std.specs.Prelude.{ℕ, zero, suc, cond, List, leb, length, get_or, set}
use Rattle.fields.specs.Layout.{hop_offset}
use Rattle.reverse_parts.specs.Parts.{reverse_parts}

-- two fields exchanged, byte for byte
unfoldable pub swap_fields : ℕ → ℕ → ℕ → List ℕ → List ℕ
swap_fields zero low high path = path
swap_fields (suc size) low high path = swap_fields size (suc low) (suc high) (set (set path low (get_or path high 0)) high (get_or path low 0))

-- the fields reversed where they are all there
unfoldable pub reverse_parts_there : ℕ → ℕ → List ℕ → List ℕ
reverse_parts_there n m path = cond (leb (hop_offset n m) (length path)) (reverse_parts n m path) path
