use Prim.Native.Nat.{◌-◌}
use mathlib.Core.Path.{◌≡◌, refl, ◌∙◌}
use native.Mathlib.Omega.{arith}
use native.Mathlib.Nat.{add-zero, sub-zero}
use lib.ListN.{length-set}
use Rattle.reverse_parts.specs.Inner.{swap_fields}
use Rattle.reverse_parts.proofs.FieldSwap.{swap_more}
use Rattle.reverse_parts.proofs.swap_fields.Goals as goal

pub loop-i-init : goal.loop-i-init
loop-i-init c = (refl, simp (sub-zero, add-zero))

pub bounds-path-high-in-loop-i : goal.bounds-path-high-in-loop-i
bounds-path-high-in-loop-i c = simp length-set (omega arith)

pub loop-i-preserved : goal.loop-i-preserved
loop-i-preserved c =
    let inv = c.loop-i.invariant in
    (simp length-set inv.0, swap_more _ _ _ _ _ c.loop-i-test.true ∙ inv.1)

pub returns : goal.returns
unfolding swap_fields
returns c =
    let e : c.args.size - c.loop-i.i ≡ 0 = omega (arith, c.loop-i-test.false) in
    rw e at c.loop-i.invariant.1
