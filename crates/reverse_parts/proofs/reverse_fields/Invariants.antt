use Prim.Native.Nat.{◌+◌, ◌-◌, ◌*◌}
use mathlib.Core.Path.{◌≡◌}
use Rattle.reverse_parts.specs.Parts.{reverse_fields}
use Rattle.reverse_parts.proofs.reverse_fields.Given as goal

abbrev pub invariant-loop-index : goal.invariant-loop-index
invariant-loop-index l =
    reverse_fields (l.at + l.size * l.index) l.size (l.count - 2 * l.index) l.path ≡ reverse_fields l.at l.size l.count l.initial.path
