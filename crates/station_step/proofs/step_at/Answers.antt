use mathlib.Core.Path.{refl}
use Rattle.records.specs.Layout.{layout_of}
use Rattle.station.specs.Station.{station_at}
use Rattle.station_step.proofs.Unsound.{step_unsound}
use Rattle.station_step.proofs.step_at.Goals as goal

pub returns-in_default : goal.returns-in_default
returns-in_default c =
    let s = c.args.station in
    let station = station_at (layout_of s.itinerary.form) s.itinerary.bytes.now s.index in
    rw (step_unsound _ station _ _ c.in_default.ensures) (record { value = refl; path_after = refl })
