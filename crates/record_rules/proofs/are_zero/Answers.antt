use mathlib.Core.Path.{◌≡◌, refl, ◌∙◌}
use mathlib.Core.Bool.{Bool}
use Prim.Native.Nat.{ℕ, zero, suc, ◌+◌}
use native.Mathlib.Numerals.{add-one}
use native.Mathlib.Omega.{arith}
use borrow.Author.Tests.{tests}
use lib.Dec.{eqb}
use lib.ListN.{get_or}
use Rattle.std.proofs.Common.{rules}
use Rattle.std.specs.List.{range_with_len, list_all}
use Rattle.std.proofs.lemmas.Iterator.{YieldsList-from_range}
use Rattle.std.proofs.lemmas.Iterator.Search.{all_from_yields_List}
use Rattle.octets.specs.Bytes.{tabulate}
use Rattle.records.specs.Records.{every, bytes_of}
use Rattle.record_rules.specs.Rules.{are_zero}
use Rattle.record_rules.proofs.are_zero.Goals as goal

tabulated : (holds : ℕ → Bool) (f : ℕ → ℕ) (n i : ℕ) → list_all (λ k. holds (f k)) (range_with_len i n) ≡ every holds (tabulate n i f)
unfolding every
tabulated holds f zero i = refl
tabulated holds f (suc n) i = rw (add-one i, tabulated holds f n (suc i))

pub returns : goal.returns
unfolding are_zero bytes_of
returns c =
    let zero_at : ℕ → Bool = λ i. eqb (get_or c.args.itinerary.bytes.now (c.offset-at.result + i) 0) 0 in
    rw (← c.offset-at.ensures.0)
    (all_from_yields_List zero_at _ _ c.all.result c.all.ensures.ran (YieldsList-from_range 0 c.args.count c.args.count (cc) (omega arith)) (λ x b q k. search (rules, tests))
    ∙ tabulated (λ byte. eqb byte 0) _ c.args.count 0)
