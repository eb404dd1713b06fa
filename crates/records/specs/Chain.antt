-- The records that a chain has left.
-- Assumes nothing.
use Rattle.std.specs.Prelude.{ℕ, List}
use Rattle.records.specs.Layout.{layout_of}
use Rattle.records.specs.Records.{chain_within}
use Rattle.records.specs.declared.Chain.{Chain}

abbrev pub records_left : Chain → List ℕ
records_left chain = chain_within (layout_of chain.itinerary.form) chain.itinerary.bytes.now chain.left chain.index
