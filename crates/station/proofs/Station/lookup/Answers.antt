use mathlib.Core.Path.{◌∙◌}
use Prim.Native.Nat.{ℕ}
use mathlib.Core.Bool.{Bool}
use lib.Dec.{eqb}
use borrow.Author.Tests.{tests}
use Rattle.std.proofs.Common.{rules}
use Rattle.records.specs.Layout.{layout_of}
use Rattle.records.specs.Records.{interface_number_of, table_records}
use Rattle.records.proofs.Chains.{chain_find}
use Rattle.station.specs.Station.{station_with}
use Rattle.station.proofs.Walks.{found, not_found}
use Rattle.station.proofs.Station.lookup.Goals as goal

pub returns : goal.returns
unfolding station_with
returns c =
    let itinerary = c.args.self.itinerary in
    let layout = layout_of itinerary.form in
    let is_it : ℕ → Bool = λ index. eqb (interface_number_of layout itinerary.bytes.now index) c.args.number in
    found layout itinerary.bytes.now (table_records layout itinerary.bytes.now c.args.self.index) c.args.number c.find.result
    (chain_find c.table_records.ensures c.find.new.self is_it _ c.find.result c.find.ensures.ran (λ x b q k. search (rules, tests)))
    c.in_ok-index.index c.interface_state.result c.in_ok-index.was c.interface_state.ensures

pub returns-in_err-index : goal.returns-in_err-index
unfolding station_with
returns-in_err-index c =
    let itinerary = c.args.self.itinerary in
    let layout = layout_of itinerary.form in
    let is_it : ℕ → Bool = λ index. eqb (interface_number_of layout itinerary.bytes.now index) c.args.number in
    c.from_residual.ensures ∙ not_found layout itinerary.bytes.now (table_records layout itinerary.bytes.now c.args.self.index) c.args.number c.find.result
    (chain_find c.table_records.ensures c.find.new.self is_it _ c.find.result c.find.ensures.ran (λ x b q k. search (rules, tests))) c.in_err-index.was
