-- 01, 'types.rs, layout.rs': sizes and offsets, in bytes. The meta word, an info field for each nonzero length, the hop fields.
-- Assumes nothing.
use Rattle.std.specs.Prelude.{ℕ, ◌+◌, ◌*◌, min}

-- 1 for a nonzero length
abbrev pub nonzero : ℕ → ℕ
nonzero n = min n 1

abbrev pub info_count : ℕ → ℕ → ℕ → ℕ
info_count seg0 seg1 seg2 = nonzero seg0 + nonzero seg1 + nonzero seg2

abbrev pub hop_count : ℕ → ℕ → ℕ → ℕ
hop_count seg0 seg1 seg2 = seg0 + seg1 + seg2

-- where info field i starts
abbrev pub info_offset : ℕ → ℕ
info_offset i = 4 + 8 * i

-- where hop field i starts, behind the info fields; for i the number of hops, where the header ends
abbrev pub hop_offset : ℕ → ℕ → ℕ
hop_offset infos i = 4 + 8 * infos + 12 * i
