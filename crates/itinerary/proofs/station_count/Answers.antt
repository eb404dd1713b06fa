use mathlib.Core.Path.{ap}
use mathlib.Core.Logic.{inl}
use native.Mathlib.Omega.{arith}
use lib.ListN.{length}
use Rattle.records.specs.Layout.{layout_of}
use Rattle.records.specs.Records.{first_station}
use Rattle.records.proofs.Chains.{chain_count}
use Rattle.records.proofs.Walks.{chain_short}
use Rattle.itinerary.proofs.station_count.Goals as goal

pub count-requires-clause-fits : goal.count-requires-clause-fits
count-requires-clause-fits c =
    let itinerary = c.args.itinerary in
    let layout = layout_of itinerary.form in
    let whole = ap length c.station_records_within.ensures in
    let short = chain_short layout itinerary.bytes.now c.args.station_limit (first_station layout itinerary.bytes.now) in
    inl (omega (arith, whole, short, c.ranges.station_limit.fits))

pub returns : goal.returns
returns c = chain_count c.station_records_within.ensures c.count.result c.count.ensures.ran
