use Rattle.std.specs.Iterator.Adapters.{enumerate_source, enumerate_count}
use Rattle.records.specs.Layout.{layout_of}
use Rattle.records.specs.Chain.{records_left}
use Rattle.journey_run.proofs.Running.{Running}
use Rattle.journey_run.proofs.run.Given as goal

abbrev pub invariant-loop-station : goal.invariant-loop-station
invariant-loop-station l =
    Running l.edition (layout_of l.itinerary.form) l.itinerary.bytes.now l.reading l.initial.path
    (enumerate_count l.station-iterator) (records_left (enumerate_source l.station-iterator)) l.end l.path
