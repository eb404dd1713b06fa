use Prim.Native.Nat.{◌+◌, ◌-◌}
use mathlib.Core.Path.{◌≡◌}
use lib.ListN.{length}
use Rattle.reverse_parts.specs.Inner.{swap_fields}
use Rattle.reverse_parts.proofs.swap_fields.Given as goal

abbrev pub invariant-loop-i : goal.invariant-loop-i
invariant-loop-i l =
    (length l.path ≡ length l.initial.path) × (swap_fields (l.size - l.i) (l.low + l.i) (l.high + l.i) l.path ≡ swap_fields l.size l.low l.high l.initial.path)
