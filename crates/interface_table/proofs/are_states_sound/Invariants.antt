use mathlib.Core.Bool.{◌&&◌}
use mathlib.Core.Path.{◌≡◌}
use lib.ListN.{drop}
use Rattle.interface_table.specs.Table.{states_sound}
use Rattle.interface_table.proofs.are_states_sound.Given as goal

abbrev pub invariant-loop-state : goal.invariant-loop-state
invariant-loop-state l = states_sound l.states ≡ (l.sound && states_sound (drop l.state-index l.states))
