use borrow.Author.Tests.{tests}
use Prim.Native.Nat.{ℕ}
use lib.Bits.{bit_xor}
use lib.ListN.{get_or}
use Rattle.std.proofs.Common.{rules}
use Rattle.octets.proofs.FromFn.{tabulated}
use Rattle.aes_words.specs.Block.{xor_block}
use Rattle.cmac.proofs.xor_block.Goals as goal

pub returns : goal.returns
unfolding xor_block
returns c =
    let byte : ℕ → ℕ = λ i. bit_xor (get_or c.args.left i 0) (get_or c.args.right i 0) in
    tabulated _ byte _ (λ x y q k. search (rules, tests)) c.from_fn.result 16 c.from_fn.ensures.items
