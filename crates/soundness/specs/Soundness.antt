-- 01, 'Journey check (added)': when an itinerary is sound. What a quoted text names is unsound.
-- Assumes nothing.
use Rattle.std.specs.Prelude.{ℕ, Bool, not, ◌&&◌, List, eqb}
use Rattle.records.specs.Layout.{Layout}
use Rattle.records.specs.Records.{every, first_interface_of, station_records, table_records}
use Rattle.record_rules.specs.Rules.{size_sound, index_sound, next_sound, zeros_sound, head_sound}

-- `chained` are the stations' records and `table_of` gives the records of a station's table: those of the whole chains in `itinerary_sound`.
module _ (layout : Layout) (itinerary : List ℕ) where
  -- 'a record reached both as station and as interface'
  unfoldable pub is_no_station : List ℕ → ℕ → Bool
  is_no_station chained index = every (λ station. not (eqb station index)) chained

  unfoldable pub interface_sound : List ℕ → ℕ → Bool
  interface_sound chained index =
      next_sound layout itinerary index && zeros_sound layout itinerary layout.interface_zeros index && is_no_station chained index

  -- its first interface record may stand before it
  unfoldable pub station_sound : List ℕ → (ℕ → List ℕ) → ℕ → Bool
  station_sound chained table_of index =
      next_sound layout itinerary index && zeros_sound layout itinerary layout.station_zeros index
      && index_sound layout itinerary (first_interface_of layout itinerary index) && every (interface_sound chained) (table_of index)

  -- 'Tables may share records; unreached records are not looked at'; with no station at all it may be sound
  unfoldable pub sound_of : List ℕ → (ℕ → List ℕ) → Bool
  sound_of chained table_of = size_sound layout itinerary && head_sound layout itinerary && every (station_sound chained table_of) chained

  abbrev pub itinerary_sound : Bool
  itinerary_sound = sound_of (station_records layout itinerary) (table_records layout itinerary)
