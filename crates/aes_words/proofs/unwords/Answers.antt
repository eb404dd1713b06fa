use borrow.Author.Tests.{tests}
use Prim.Native.Nat.{ℕ, ◌/◌, ◌%◌}
use lib.ListN.{get_or}
use Rattle.std.proofs.Common.{rules}
use Rattle.std.specs.Int.{w32, to_le_bytes}
use Rattle.octets.proofs.FromFn.{tabulated}
use Rattle.aes_words.specs.Words.{word_bytes, words_bytes}
use Rattle.aes_words.proofs.unwords.Goals as goal

pub returns : goal.returns
unfolding words_bytes word_bytes
returns c =
    let byte : ℕ → ℕ = λ i. get_or (to_le_bytes w32 (get_or c.args.words (i / 4) 0)) (i % 4) 0 in
    tabulated _ byte _ (λ x y q k. search (rules, tests)) c.from_fn.result 16 c.from_fn.ensures.items
