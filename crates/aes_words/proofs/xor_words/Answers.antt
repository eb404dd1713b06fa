use borrow.Author.Tests.{tests}
use mathlib.Core.Path.{ap, ◌∙◌}
use Prim.Native.Nat.{ℕ}
use lib.Bits.{bit_xor}
use lib.ListN.{get_or}
use Rattle.std.proofs.Common.{rules}
use Rattle.octets.proofs.FromFn.{tabulated}
use Rattle.aes_words.specs.Words.{state_bytes}
use Rattle.aes_words.proofs.WordBytes.{state_xor}
use Rattle.aes_words.proofs.xor_words.Goals as goal

pub returns : goal.returns
returns c =
    let sum : ℕ → ℕ = λ i. bit_xor (get_or c.args.left i 0) (get_or c.args.right i 0) in
    ap state_bytes (tabulated _ sum _ (λ x y q k. search (rules, tests)) c.from_fn.result 4 c.from_fn.ensures.items) ∙ state_xor _ _
