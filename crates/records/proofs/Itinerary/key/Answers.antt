use Prim.Native.Nat.{ℕ, ◌+◌}
use borrow.Author.Tests.{tests}
use lib.ListN.{get_or}
use Rattle.std.proofs.Common.{rules}
use Rattle.octets.proofs.FromFn.{tabulated}
use Rattle.records.specs.Records.{bytes_of, key_of}
use Rattle.records.proofs.Itinerary.key.Goals as goal

pub returns : goal.returns
unfolding key_of bytes_of
returns c =
    let byte : ℕ → ℕ = λ i. get_or c.args.self.bytes.now (c.offset-at.result + i) 0 in
    rw (← c.layout.ensures.key, ← c.offset-at.ensures.0) (tabulated _ byte _ (λ x y q k. search (rules, tests)) c.from_fn.result 16 c.from_fn.ensures.items)
