-- 01, 'Journey check (added)': what an itinerary holds of one station. A station is an AS on the way: the interface that packets arrive on,
-- the AS's key and its interface table. The word is 01's.
-- Assumes nothing.
use Rattle.std.specs.Prelude.{ℕ, List, map}
use Rattle.records.specs.Layout.{Layout}
use Rattle.records.specs.Records.{arrival_of, key_of, interface_number_of, interface_state_of, table_records}

pub record Station : Type 0 where
  pub arrival : ℕ
  pub key : List ℕ
  pub ids : List ℕ
  pub states : List ℕ

module _ (layout : Layout) (itinerary : List ℕ) where
  -- the station of a record; `table_of` gives the records of its table, those of the whole chain in `station_at`
  unfoldable pub station_with : (ℕ → List ℕ) → ℕ → Station
  station_with table_of index =
      record {
        arrival = arrival_of layout itinerary index;
        key = key_of layout itinerary index;
        ids = map (interface_number_of layout itinerary) (table_of index);
        states = map (interface_state_of layout itinerary) (table_of index);
      }

  abbrev pub station_at : ℕ → Station
  station_at index = station_with (table_records layout itinerary) index
