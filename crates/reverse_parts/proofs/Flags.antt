-- C turned over, as a mask does it.
-- Assumes nothing.
use mathlib.Core.Path.{◌≡◌}
use Prim.Native.Nat.{ℕ, ◌%◌}
use native.Mathlib.Omega.{arith}
use Rattle.std.proofs.Common.{bit_and, bit_xor}
use Rattle.std.specs.Int.Bits.{xor_add_and}
use Rattle.std.proofs.lemmas.Nat.{and_mask}
use Rattle.reverse_parts.specs.Parts.{toggled}

pub toggled_by_mask : (flags : ℕ) → bit_xor flags 1 ≡ toggled flags
toggled_by_mask flags =
    let lowest : bit_and flags 1 ≡ flags % 2 = and_mask flags 1 in
    omega (arith, xor_add_and flags 1, lowest)
