use borrow.Author.Rules.{rules}
use Prim.Native.Nat.{◌+◌, ◌-◌, ◌<◌}
use mathlib.Core.Path.{◌≡◌, sym, ap, ◌∙◌}
use mathlib.Core.List.{[]}
use native.Mathlib.Omega.{arith}
use lib.ListN.{length}
use Rattle.aes_keys.proofs.KeyWords.{key_words, round_key, first_key, key_count, next_key}
use Rattle.octets.proofs.Lists.{filled_first, filled_more, filled_all}
use Rattle.aes_words.specs.Block.{joined}
use Rattle.aes_keys.proofs.SBox.expand.Goals as goal

pub loop-i-init : goal.loop-i-init
unfolding key_words
loop-i-init c =
    let size : length c.args.key ≡ 16 = search rules in
    (c.words-last.ensures, filled_first [] (sym (key_count _)) (first_key _ size))

pub loop-i-preserved : goal.loop-i-preserved
loop-i-preserved c =
    let key = c.args.key in
    let i = c.loop-i.i in
    let inv = c.loop-i.invariant in
    let e : i ≡ i + 1 - 1 = omega arith in
    let h : i < 11 = omega arith in
    let next = next_key key i (omega arith) h inv.0 c.next_words-next.ensures in
    let round = c.unwords.ensures ∙ ap joined next ∙ sym (round_key key i h) in
    (next ∙ ap (key_words key) e, filled_more [] _ round (rw (key_count _) h) inv.1)

pub returns : goal.returns
returns c = filled_all [] (rw (key_count _) c.loop-i-test.false) c.loop-i.invariant.1
