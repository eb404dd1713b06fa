use Rattle.records.specs.Layout.{layout_of}
use Rattle.records.specs.Chain.{records_left}
use Rattle.records.specs.Inner.{station_records_within, table_records_within}
use Rattle.soundness.proofs.Merge.{Merged, held}
use Rattle.soundness.proofs.are_interfaces_sound.Given as goal

abbrev pub invariant-loop-index : goal.invariant-loop-index
invariant-loop-index l =
    Merged (layout_of l.itinerary.form) l.itinerary.bytes.now (station_records_within (layout_of l.itinerary.form) l.itinerary.bytes.now l.fn.limits.stations)
    (table_records_within (layout_of l.itinerary.form) l.itinerary.bytes.now l.fn.limits.table l.station) (held l.reached (records_left l.stations)) (records_left l.index-iterator)
