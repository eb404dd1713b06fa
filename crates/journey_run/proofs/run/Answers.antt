use mathlib.Core.Path.{refl, sym, ap, ◌∙◌}
use mathlib.Core.Logic.{inl}
use native.Mathlib.Omega.{arith}
use lib.ListN.{length}
use Rattle.std.specs.Iterator.Adapters.{enumerate_source, enumerate_count}
use Rattle.records.specs.Layout.{layout_of}
use Rattle.records.specs.Chain.{records_left}
use Rattle.journey_run.proofs.Running.{ends_here, stations_few}
use Rattle.journey_run.proofs.run.Goals as goal

pub loop-station-init-derived : goal.loop-station-init-derived
loop-station-init-derived c =
    let itinerary = c.args.itinerary in
    let same = c.into_iter-station-iterator.ensures.into_iter_gives in
    let none = ap enumerate_count same ∙ c.enumerate-station-items.ensures.count in
    let all = ap (λ s. length (records_left (enumerate_source s))) same ∙ ap (λ t. length (records_left t)) c.enumerate-station-items.ensures.source ∙ ap length c.station_records.ensures in
    ((tt, tt, inl (omega (arith, none, all, stations_few (layout_of itinerary.form) itinerary.bytes.now))), tt)

pub returns-then-not-goes_on : goal.returns-then-not-goes_on
returns-then-not-goes_on c =
    let turn = c.in-Some.ensures.steps in
    let stepped = c.step_at-answer.ensures in
    rw (
      turn.1,
      stepped.value,
      stepped.path_after,
      ends_here _ _ _ _ _ c.loop-station.invariant turn.0 (rw stepped.value at (sym c.goes_on.ensures ∙ c.if-not-goes_on.true)),
    )
    (record { value = refl; path_after = refl })
