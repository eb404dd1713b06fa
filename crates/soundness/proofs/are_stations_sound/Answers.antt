use mathlib.Core.Path.{sym, ◌∙◌}
use borrow.Author.Tests.{tests}
use Rattle.std.proofs.Common.{rules}
use Rattle.records.specs.Layout.{layout_of}
use Rattle.records.specs.Inner.{station_records_within, table_records_within}
use Rattle.records.proofs.Chains.{chain_all}
use Rattle.soundness.specs.Soundness.{station_sound}
use Rattle.soundness.proofs.Chains.{nexts_unsound}
use Rattle.soundness.proofs.are_stations_sound.Goals as goal

pub returns-then-are_station_nexts_sound : goal.returns-then-are_station_nexts_sound
returns-then-are_station_nexts_sound c =
    let itinerary = c.args.itinerary in
    let layout = layout_of itinerary.form in
    let limits = c.args.limits in
    chain_all c.station_records_within.ensures c.all.new.self
    (station_sound layout itinerary.bytes.now (station_records_within layout itinerary.bytes.now limits.stations) (table_records_within layout itinerary.bytes.now limits.table)) _
    c.all.result c.all.ensures.ran (λ x b q k. search (rules, tests))

pub returns-else-are_station_nexts_sound : goal.returns-else-are_station_nexts_sound
returns-else-are_station_nexts_sound c =
    let itinerary = c.args.itinerary in
    c.if-are_station_nexts_sound.false ∙ nexts_unsound (layout_of itinerary.form) itinerary.bytes.now _ _ (sym c.are_station_nexts_sound.ensures ∙ c.if-are_station_nexts_sound.false)
