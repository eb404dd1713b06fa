use mathlib.Core.Path.{refl, sym, ◌∙◌}
use mathlib.Core.Bool.{Bool, not}
use Prim.Native.Nat.{ℕ}
use borrow.Author.Tests.{tests}
use lib.Dec.{eqb}
use Rattle.std.proofs.Common.{rules}
use Rattle.records.specs.Layout.{layout_of}
use Rattle.records.specs.Records.{arrival_of}
use Rattle.records.specs.Chain.{records_left}
use Rattle.records.specs.Inner.{station_records_within, table_records_within}
use Rattle.records.proofs.Chains.{chain_all}
use Rattle.itinerary.proofs.Stations.{none_arrives, first_arrives, later_arrive}
use Rattle.itinerary.proofs.arrivals_fit.Goals as goal

pub returns-in_default : goal.returns-in_default
returns-in_default c =
    let itinerary = c.args.itinerary in
    let layout = layout_of itinerary.form in
    none_arrives layout itinerary.bytes.now (station_records_within layout itinerary.bytes.now c.args.station_limit) (table_records_within layout itinerary.bytes.now 257)
    (sym c.station_records_within-stations.ensures ∙ c.in_default.ensures.steps.0)

pub returns-then-arrival-eq0 : goal.returns-then-arrival-eq0
returns-then-arrival-eq0 c =
    let itinerary = c.args.itinerary in
    let layout = layout_of itinerary.form in
    let later : ℕ → Bool = λ station. not (eqb (arrival_of layout itinerary.bytes.now station) 0) in
    later_arrive layout itinerary.bytes.now (station_records_within layout itinerary.bytes.now c.args.station_limit) (table_records_within layout itinerary.bytes.now 257)
    c.in-Some.first (records_left c.next.new.self) (sym c.station_records_within-stations.ensures ∙ c.in-Some.ensures.steps) c.arrival.result c.arrival.ensures
    c.if-arrival-eq0.true
    (chain_all {chain = c.next.new.self} refl c.all.new.self later _ c.all.result c.all.ensures.ran (λ x b q k. search (rules, tests)))

pub returns-else-arrival-eq0 : goal.returns-else-arrival-eq0
returns-else-arrival-eq0 c =
    let itinerary = c.args.itinerary in
    let layout = layout_of itinerary.form in
    first_arrives layout itinerary.bytes.now (station_records_within layout itinerary.bytes.now c.args.station_limit) (table_records_within layout itinerary.bytes.now 257)
    c.in-Some.first (records_left c.next.new.self) (sym c.station_records_within-stations.ensures ∙ c.in-Some.ensures.steps) c.arrival.result c.arrival.ensures
    c.if-arrival-eq0.false
