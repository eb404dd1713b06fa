use mathlib.Core.Path.{◌≡◌}
use Rattle.reverse_parts.specs.Parts.{toggle_cons_dirs}
use Rattle.reverse_parts.proofs.toggle_cons_dirs.Given as goal

abbrev pub invariant-loop-index : goal.invariant-loop-index
invariant-loop-index l = l.path ≡ toggle_cons_dirs l.index l.initial.path
