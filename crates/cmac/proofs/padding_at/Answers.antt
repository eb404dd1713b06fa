use borrow.Author.Tests.{tests}
use Prim.Native.Nat.{ℕ, ◌+◌}
use Rattle.std.proofs.Common.{rules}
use Rattle.octets.proofs.FromFn.{tabulated}
use Rattle.cmac.specs.Cmac.{padded_byte, padding_at}
use Rattle.cmac.proofs.padding_at.Goals as goal

pub returns : goal.returns
unfolding padding_at
returns c =
    let byte : ℕ → ℕ = λ i. padded_byte c.args.message.now (c.args.at + i) in
    tabulated _ byte _ (λ x y q k. search (rules, tests)) c.from_fn.result 16 c.from_fn.ensures.items
