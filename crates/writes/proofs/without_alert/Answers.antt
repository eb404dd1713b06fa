use mathlib.Core.Path.{◌≡◌}
use Prim.Native.Nat.{ℕ, ◌+◌, ◌-◌, ◌*◌, ◌/◌, ◌%◌, ◌<◌}
use native.Mathlib.Omega.{arith}
use Rattle.std.specs.Int.Bits.{bit_and}
use Rattle.std.proofs.lemmas.Nat.{and_block, and_mask}
use Rattle.writes.proofs.without_alert.Goals as goal

-- the second bit cleared, by the halves above and below it
second_cleared : (n : ℕ) → n < 256 → bit_and n 253 ≡ n - n / 2 % 2 * 2
second_cleared n few =
    let split : n / 4 * 4 + n % 4 ≡ n = omega arith in
    let cut : bit_and (n / 4 * 4 + n % 4) 253 ≡ bit_and (n / 4) 63 * 4 + bit_and (n % 4) 1 =
    and_block 2 (n / 4) 63 (n % 4) 1 (omega arith) (omega arith) in
    let high : bit_and (n / 4) 63 ≡ n / 4 % 64 = and_mask (n / 4) 6 in
    let low : bit_and (n % 4) 1 ≡ n % 4 % 2 = and_mask (n % 4) 1 in
    let all = rw (split, high, low) at cut in
    omega (arith, all)

pub returns-then-ingress : goal.returns-then-ingress
returns-then-ingress c = rw c.if-ingress.true (second_cleared c.args.flags (omega arith))
