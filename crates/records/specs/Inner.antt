-- For the contracts of inner functions: the records reached where chains are followed only as far as a limit goes.
-- Assumes nothing.
use Rattle.std.specs.Prelude.{ℕ, List}
use Rattle.records.specs.Layout.{Layout}
use Rattle.records.specs.Records.{first_interface_of, first_station, chain_within}

module _ (layout : Layout) (itinerary : List ℕ) where
  abbrev pub station_records_within : ℕ → List ℕ
  station_records_within station_limit = chain_within layout itinerary station_limit (first_station layout itinerary)

  abbrev pub table_records_within : ℕ → ℕ → List ℕ
  table_records_within table_limit station = chain_within layout itinerary table_limit (first_interface_of layout itinerary station)
