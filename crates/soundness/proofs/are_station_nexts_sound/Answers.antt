use borrow.Author.Tests.{tests}
use Rattle.std.proofs.Common.{rules}
use Rattle.records.specs.Layout.{layout_of}
use Rattle.record_rules.specs.Rules.{next_sound}
use Rattle.records.proofs.Chains.{chain_all}
use Rattle.soundness.proofs.are_station_nexts_sound.Goals as goal

pub returns : goal.returns
returns c =
    let itinerary = c.args.itinerary in
    chain_all c.station_records_within.ensures c.all.new.self (next_sound (layout_of itinerary.form) itinerary.bytes.now) _ c.all.result c.all.ensures.ran
    (λ x b q k. search (rules, tests))
