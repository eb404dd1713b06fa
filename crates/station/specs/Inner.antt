-- For the contracts of inner functions: a station whose table is followed only as far as a limit goes.
-- Assumes nothing.
use Rattle.std.specs.Prelude.{ℕ, List}
use Rattle.records.specs.Layout.{Layout}
use Rattle.records.specs.Inner.{table_records_within}
use Rattle.station.specs.Station.{Station, station_with}

abbrev pub station_within : Layout → List ℕ → ℕ → ℕ → Station
station_within layout itinerary table_limit index = station_with layout itinerary (table_records_within layout itinerary table_limit) index
