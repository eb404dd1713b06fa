use Prim.Native.Nat.{◌+◌, ◌-◌, ◌*◌, ◌<◌}
use mathlib.Core.Path.{◌≡◌, sym, ap, ◌∙◌}
use native.Mathlib.Omega.{arith}
use Rattle.reverse_parts.specs.Parts.{reverse_fields}
use Rattle.reverse_parts.proofs.FieldSwap.{opposite_field, fields_within, next_field, reverse_few, reverse_more}
use Rattle.reverse_parts.proofs.reverse_fields.Goals as goal

pub loop-index-preserved : goal.loop-index-preserved
loop-index-preserved c =
    let a = c.args in
    let head = c.loop-index in
    let two : 1 < a.count - 2 * head.index = omega (arith, c.loop-index-test.true) in
    let opposite = opposite_field a.size a.at a.count head.index c.loop-index-test.true in
    let within = fields_within a.size a.at a.count head.index c.loop-index-test.true in
    let left : a.count - 2 * (head.index + 1) ≡ a.count - 2 * head.index - 2 = omega arith in
    let done = reverse_more a.size (a.count - 2 * head.index) (a.at + a.size * head.index) _ head.path two opposite (omega (arith, within)) in
    let swapped = rw (c.from.ensures, c.from-in-loop-index.ensures) at c.swap_fields.ensures in
    rw (next_field a.size a.at head.index, left) (ap (reverse_fields _ _ _) swapped ∙ done ∙ head.invariant)

pub returns : goal.returns
returns c =
    let few = reverse_few c.args.size (c.args.at + c.args.size * c.loop-index.index) _ c.loop-index.path (omega (arith, c.loop-index-test.false)) in
    sym few ∙ c.loop-index.invariant
