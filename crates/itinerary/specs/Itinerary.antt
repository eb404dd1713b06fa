-- 01, question 23. An itinerary is the plan of a rehearsal: the stations that a path is to pass, in order. The word is 01's.
-- Assumes nothing.
use Rattle.std.specs.Prelude.{ℕ, Bool, true, not, ◌&&◌, List, [], ◌∷◌, map, eqb, length}
use Rattle.interface_table.specs.Table.{table_sound}
use Rattle.records.specs.Layout.{Layout}
use Rattle.records.specs.Records.{every, station_records, table_records}
use Rattle.soundness.specs.Soundness.{itinerary_sound}
use Rattle.station.specs.Station.{Station, station_with}

-- ---- the stations, in chain order

module _ (layout : Layout) (itinerary : List ℕ) where
  -- `chained` are their records, `table_of` gives the records of a station's table
  unfoldable pub stations_of : List ℕ → (ℕ → List ℕ) → List Station
  stations_of chained table_of = map (station_with layout itinerary table_of) chained

  abbrev pub stations : List Station
  stations = stations_of (station_records layout itinerary) (table_records layout itinerary)

-- ---- question 23, but for the clock readings

-- 'each table too'
unfoldable pub tables_sound : List Station → Bool
tables_sound plan = every (λ station. table_sound station.ids station.states) plan

-- 'first arrival 0, later ones not'
unfoldable pub arrivals_fit : List Station → Bool
arrivals_fit [] = true
arrivals_fit (first ∷ later) = eqb first.arrival 0 && every (λ station. not (eqb station.arrival 0)) later

module _ (layout : Layout) (itinerary : List ℕ) where
  -- 'Itinerary sound, each table too, .. first arrival 0, later ones not': the plan itself, whatever the path
  unfoldable pub plan_fits : Bool
  plan_fits = itinerary_sound layout itinerary && tables_sound (stations layout itinerary) && arrivals_fit (stations layout itinerary)

  -- '.. station count = ..' the one wanted
  unfoldable pub itinerary_fits : ℕ → Bool
  itinerary_fits wanted = plan_fits && eqb (length (stations layout itinerary)) wanted
