-- 01, 'Journey check (added)': what is asked of an itinerary's size and of one record by itself. What a quoted text names is unsound.
-- Assumes nothing.
use Rattle.std.specs.Prelude.{ℕ, ◌%◌, Bool, ◌&&◌, ◌||◌, List, eqb, leb, ltb, length}
use Rattle.records.specs.Layout.{Layout}
use Rattle.records.specs.Records.{every, record_count, bytes_of, next_of, first_station}

module _ (layout : Layout) (itinerary : List ℕ) where
  -- 'a length that is no multiple of 32, no record or too many'
  unfoldable pub size_sound : Bool
  size_sound =
      eqb (length itinerary % layout.record_bytes) 0 && leb 1 (record_count layout itinerary)
      && leb (record_count layout itinerary) layout.max_records

  -- 'an index not below the record count'
  abbrev pub index_sound : ℕ → Bool
  index_sound index = ltb index (record_count layout itinerary)

  -- 'a next neither zero nor above its own'
  unfoldable pub next_sound : ℕ → Bool
  next_sound index =
      eqb (next_of layout itinerary index) 0
      || ltb index (next_of layout itinerary index) && index_sound (next_of layout itinerary index)

  -- 'a nonzero byte where zero is named'
  unfoldable pub are_zero : ℕ → ℕ → ℕ → Bool
  are_zero index field count = every (λ byte. eqb byte 0) (bytes_of layout itinerary index field count)

  unfoldable pub zeros_sound : List (ℕ × ℕ) → ℕ → Bool
  zeros_sound ranges index = every (λ range. are_zero index range.0 range.1) ranges

  -- '(record 0 from byte 2 on included)'
  unfoldable pub head_sound : Bool
  head_sound = zeros_sound layout.head_zeros 0 && index_sound (first_station layout itinerary)
