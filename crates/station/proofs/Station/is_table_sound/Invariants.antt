use Rattle.records.specs.Layout.{layout_of}
use Rattle.records.specs.Chain.{records_left}
use Rattle.records.specs.Inner.{table_records_within}
use Rattle.std.specs.Iterator.Adapters.{enumerate_source, enumerate_count}
use Rattle.station.proofs.Walks.{Entered}
use Rattle.station.proofs.Station.is_table_sound.Given as goal

abbrev pub invariant-loop-entries : goal.invariant-loop-entries
invariant-loop-entries l =
    Entered (layout_of l.self.itinerary.form) l.self.itinerary.bytes.now (table_records_within (layout_of l.self.itinerary.form) l.self.itinerary.bytes.now 257 l.self.index)
    (enumerate_count l.entries-iterator) l.lowest (records_left (enumerate_source l.entries-iterator))
