-- For the contracts of inner functions: an itinerary whose chains are followed only as far as limits go, one for how many stations, and one
-- for how many records of each station's table.
-- Assumes nothing.
use Rattle.std.specs.Prelude.{ℕ, Bool, ◌&&◌, List, eqb, length}
use Rattle.records.specs.Layout.{Layout}
use Rattle.records.specs.Inner.{station_records_within, table_records_within}
use Rattle.soundness.specs.Inner.{sound_within}
use Rattle.station.specs.Station.{Station}
use Rattle.itinerary.specs.Itinerary.{stations_of, tables_sound, arrivals_fit}

module _ (layout : Layout) (itinerary : List ℕ) where
  abbrev pub stations_within : ℕ → ℕ → List Station
  stations_within station_limit table_limit =
      stations_of layout itinerary (station_records_within layout itinerary station_limit) (table_records_within layout itinerary table_limit)

  unfoldable pub fits_within : ℕ → ℕ → ℕ → Bool
  fits_within station_limit table_limit wanted =
      (sound_within layout itinerary station_limit table_limit && tables_sound (stations_within station_limit table_limit)
      && arrivals_fit (stations_within station_limit table_limit))
      && eqb (length (stations_within station_limit table_limit)) wanted
