use mathlib.Core.Path.{◌≡◌}
use mathlib.Core.List.{◌++◌, map}
use Rattle.records.specs.Layout.{layout_of}
use Rattle.records.specs.Records.{interface_number_of, interface_state_of, table_records}
use Rattle.records.specs.Chain.{records_left}
use Rattle.station_step.proofs.CopiedTable.new.Given as goal

abbrev pub invariant-loop-record : goal.invariant-loop-record
invariant-loop-record l =
    let layout = layout_of l.station.itinerary.form in
    let bytes = l.station.itinerary.bytes.now in
    let table = table_records layout bytes l.station.index in
    let rest = records_left l.record-iterator in
    record {
      can : goal.iterator-loop-record.can_next l.record-iterator;
      ends : goal.iterator-loop-record.is_finite l.record-iterator;
      numbers : l.ids.items ++ map (interface_number_of layout bytes) rest ≡ map (interface_number_of layout bytes) table;
      states : l.states.items ++ map (interface_state_of layout bytes) rest ≡ map (interface_state_of layout bytes) table;
    }
