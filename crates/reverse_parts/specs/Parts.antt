-- 01, 'view.rs', `try_reverse`: what it writes, the lengths swapped, the fields reversed and C toggled.
-- Assumes nothing.
use Rattle.std.specs.Prelude.{ℕ, zero, suc, ◌+◌, ◌-◌, ◌*◌, ◌/◌, ◌%◌, cond, List, [], ◌++◌, eqb, get_or, set, take, drop}
use Rattle.fields.specs.Layout.{info_offset, hop_offset}
use Rattle.standard_path.specs.Meta.{seg0_len, seg1_len, seg2_len}

-- ---- the lengths

-- lengths below 64 into the meta word; its reserved bits stay
unfoldable pub set_lengths : List ℕ → ℕ → ℕ → ℕ → List ℕ
set_lengths path seg0 seg1 seg2 =
    set (set (set path
    1 (get_or path 1 0 / 4 * 4 + seg0 / 16))
    2 (seg0 % 16 * 16 + seg1 / 4))
    3 (seg1 % 4 * 64 + seg2)

-- the used lengths end for end
unfoldable pub swap_lengths : List ℕ → List ℕ
swap_lengths path =
    cond (eqb (seg1_len path) 0) path
    (cond (eqb (seg2_len path) 0) (set_lengths path (seg1_len path) (seg0_len path) (seg2_len path))
    (set_lengths path (seg2_len path) (seg1_len path) (seg0_len path)))

-- ---- the fields

-- flags with C, the lowest, turned over
abbrev pub toggled : ℕ → ℕ
toggled flags = flags / 2 * 2 + (1 - flags % 2)

unfoldable pub toggle_cons_dir : ℕ → List ℕ → List ℕ
toggle_cons_dir i path = set path (info_offset i) (toggled (get_or path (info_offset i) 0))

-- C toggled in the first n info fields
unfoldable pub toggle_cons_dirs : ℕ → List ℕ → List ℕ
toggle_cons_dirs zero path = path
toggle_cons_dirs (suc n) path = toggle_cons_dir n (toggle_cons_dirs n path)

-- the first n fields of `size` bytes each, the last one first
unfoldable pub last_first : ℕ → ℕ → List ℕ → List ℕ
last_first size zero l = []
last_first size (suc n) l = last_first size n (drop size l) ++ take size l

-- n fields from a place on, in the opposite order
unfoldable pub reverse_fields : ℕ → ℕ → ℕ → List ℕ → List ℕ
reverse_fields at size n path = take at path ++ (last_first size n (drop at path) ++ drop (at + size * n) path)

-- n info fields with C toggled, and m hop fields, each in the opposite order
unfoldable pub reverse_parts : ℕ → ℕ → List ℕ → List ℕ
reverse_parts n m path =
    reverse_fields (hop_offset n 0) 12 m
    (reverse_fields (info_offset 0) 8 n
    (toggle_cons_dirs n path))
