-- For the contracts of inner functions: soundness where chains are followed only as far as limits go, one for how many stations, and one
-- for how many records of each station's table.
-- Assumes nothing.
use Rattle.std.specs.Prelude.{ℕ, Bool, List}
use Rattle.records.specs.Layout.{Layout}
use Rattle.records.specs.Inner.{station_records_within, table_records_within}
use Rattle.soundness.specs.Soundness.{sound_of}

abbrev pub sound_within : Layout → List ℕ → ℕ → ℕ → Bool
sound_within layout itinerary station_limit table_limit =
    sound_of layout itinerary (station_records_within layout itinerary station_limit) (table_records_within layout itinerary table_limit)
