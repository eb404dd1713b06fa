-- A table with more than 256 entries is unsound, and the step answers 1.
-- Assumes nothing.
use mathlib.Core.Path.{◌≡◌}
use mathlib.Core.Bool.{false, and-false}
use mathlib.Core.List.{List}
use Prim.Native.Nat.{ℕ, ◌<◌}
use borrow.Author.Tests.{lt-leb}
use lib.ListN.{length}
use Rattle.std.specs.Prelude.{Err}
use Rattle.questions.specs.Questions.{asks}
use Rattle.interface_table.specs.Table.{table_sound}
use Rattle.answers.specs.Outcome.{leaves}
use Rattle.answers.specs.declared.StandardRoutingError.TheVariants.{UnsoundTable}
use Rattle.edition.specs.declared.Edition.{Edition}
use Rattle.ingress.specs.Ingress.{ingress}
use Rattle.routing.specs.Step.{step_from, step}
use Rattle.station.specs.Station.{Station}
use Rattle.journey.specs.Journey.{step_at}

long_unsound : (ids states : List ℕ) → 256 < length ids → table_sound ids states ≡ false
unfolding table_sound
long_unsound ids states h = rw (lt-leb (length ids) 256 h, and-false)

pub step_unsound : (edition : Edition) (station : Station) (reading : ℕ) (path : List ℕ) → 256 < length station.ids
    → step_at edition station reading path ≡ leaves Err path UnsoundTable
unfolding step_at step step_from ingress asks
step_unsound edition station reading path h = rw (long_unsound station.ids station.states h)
