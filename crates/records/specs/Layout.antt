-- 01, 'Journey check (added)': where the fields of an itinerary's records stand, in bytes from the start of a record.
-- Assumes nothing.
use Rattle.std.specs.Prelude.{ℕ, ◌+◌, ◌*◌, List, [], ◌∷◌}
use Rattle.octets.specs.Bytes.{be16_at}
use Rattle.records.specs.declared.form.Form.{Form}
use Rattle.records.specs.declared.form.Form.TheVariants.{Narrow}

-- A record starts with an index: in record 0 that of the first station, in any other that of the next record of its chain.
-- A range of zeros is its first byte and how many they are.
pub record Layout : Type 0 where
  pub record_bytes : ℕ
  pub max_records : ℕ
  -- the index at a place of a list of bytes
  pub index_at : List ℕ → ℕ → ℕ
  pub head_zeros : List (ℕ × ℕ)
  pub arrival : ℕ
  pub first_interface : ℕ
  pub key : ℕ
  pub station_zeros : List (ℕ × ℕ)
  pub number : ℕ
  pub state : ℕ
  pub interface_zeros : List (ℕ × ℕ)

-- 'records of 32 bytes, at most 2,048'; 'Record 0 holds the first station's index in bytes 0-1'
-- 'Station: next 2, arrival interface 2, first interface record 2 (0 for none), 2 zero, key 16, 8 zero'
-- 'Interface record: next 2, number 2, state 1, rest zero'
abbrev pub narrow : Layout
narrow =
    record {
      record_bytes = 32;
      max_records = 2048;
      index_at = be16_at;
      head_zeros = (2, 30) ∷ [];
      arrival = 2;
      first_interface = 4;
      key = 8;
      station_zeros = (6, 2) ∷ (24, 8) ∷ [];
      number = 2;
      state = 4;
      interface_zeros = (5, 27) ∷ [];
    }

-- the layout of a form's records: what a form means
abbrev pub layout_of : Form → Layout
layout_of Narrow = narrow

-- where a field of a record stands
abbrev pub offset : Layout → ℕ → ℕ → ℕ
offset layout index field = layout.record_bytes * index + field
