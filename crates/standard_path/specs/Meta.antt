-- 01, 'types.rs, layout.rs': the meta word, from the top: CurrINF 2 bits, CurrHF 6, reserved 6, three lengths of 6.
-- Assumes nothing.
use Rattle.std.specs.Prelude.{ℕ, ◌+◌, ◌*◌, ◌/◌, ◌%◌, List, get_or, set}

abbrev pub curr_inf : List ℕ → ℕ
curr_inf path = get_or path 0 0 / 64

abbrev pub curr_hf : List ℕ → ℕ
curr_hf path = get_or path 0 0 % 64

abbrev pub seg0_len : List ℕ → ℕ
seg0_len path = get_or path 1 0 % 4 * 16 + get_or path 2 0 / 16

abbrev pub seg1_len : List ℕ → ℕ
seg1_len path = get_or path 2 0 % 16 * 4 + get_or path 3 0 / 64

abbrev pub seg2_len : List ℕ → ℕ
seg2_len path = get_or path 3 0 % 64

-- of an index the bits that fit
unfoldable pub set_curr_inf : List ℕ → ℕ → List ℕ
set_curr_inf path index = set path 0 (index % 4 * 64 + get_or path 0 0 % 64)

unfoldable pub set_curr_hf : List ℕ → ℕ → List ℕ
set_curr_hf path index = set path 0 (get_or path 0 0 / 64 * 64 + index % 64)
