use mathlib.Core.Path.{sym, ◌∙◌}
use borrow.Author.Tests.{tests}
use Rattle.std.proofs.Common.{rules}
use Rattle.records.specs.Layout.{layout_of}
use Rattle.records.specs.Inner.{station_records_within, table_records_within}
use Rattle.records.proofs.Chains.{chain_all}
use Rattle.itinerary.proofs.Stations.{has_sound_table, tables_by_records}
use Rattle.itinerary.proofs.are_tables_sound.Goals as goal

pub returns : goal.returns
returns c =
    let itinerary = c.args.itinerary in
    let layout = layout_of itinerary.form in
    let tables = table_records_within layout itinerary.bytes.now 257 in
    chain_all c.station_records_within.ensures c.all.new.self (has_sound_table layout itinerary.bytes.now tables) _ c.all.result c.all.ensures.ran (λ x b q k. search (rules, tests))
    ∙ sym (tables_by_records layout itinerary.bytes.now (station_records_within layout itinerary.bytes.now c.args.station_limit) tables)
