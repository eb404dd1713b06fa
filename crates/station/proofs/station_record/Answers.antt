use mathlib.Core.Path.{◌∙◌}
use Rattle.records.proofs.Chains.{chain_nth}
use Rattle.station.proofs.station_record.Goals as goal

pub returns : goal.returns
returns c =
    rw (← c.from-place.ensures)
    (c.unwrap_or.ensures ∙ chain_nth c.station_records.ensures c.nth.new.self c.nth.result c.from-place.result c.nth.ensures.ran)
