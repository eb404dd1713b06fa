-- The second flag, as a mask reads it.
-- Assumes nothing.
use mathlib.Core.Path.{◌≡◌}
use mathlib.Core.Bool.{not}
use Prim.Native.Nat.{ℕ, ◌/◌, ◌%◌}
use native.Mathlib.Omega.{arith}
use lib.Dec.{eqb}
use Rattle.std.proofs.Common.{nat_eq, bit_and}
use Rattle.std.proofs.lemmas.Bool.Decides.{nat_tests}
use Rattle.std.proofs.lemmas.Nat.Bits.{and_pow}

pub second_flag : (flags : ℕ) → not (nat_eq (bit_and flags 2) 0) ≡ eqb (flags / 2 % 2) 1
second_flag flags = let e = and_pow flags 1 in rw e (grind (arith, nat_tests))
