use Prim.Native.Nat.{◌-◌}
use mathlib.Core.Bool.{◌&&◌}
use mathlib.Core.Path.{◌≡◌}
use lib.ListN.{drop}
use Rattle.interface_table.specs.Table.{ids_ascending}
use Rattle.interface_table.proofs.are_ids_ascending.Given as goal

abbrev pub invariant-loop-i : goal.invariant-loop-i
invariant-loop-i l = ids_ascending l.ids ≡ (l.ascending && ids_ascending (drop (l.i - 1) l.ids))
