-- 01, 'Journey check (added)': an itinerary's records, one by one and along their chains. A byte past the end counts as 0.
-- Assumes nothing.
use Rattle.std.specs.Prelude.{ℕ, zero, suc, ◌+◌, ◌/◌, Bool, true, cond, ◌&&◌, List, [], ◌∷◌, eqb, length, get_or}
use Rattle.octets.specs.Bytes.{tabulate, be16_at}
use Rattle.records.specs.Layout.{Layout, offset}

unfoldable pub every : {A : Type 0} → (A → Bool) → List A → Bool
every holds [] = true
every holds (x ∷ xs) = holds x && every holds xs

module _ (layout : Layout) (itinerary : List ℕ) where
  unfoldable pub record_count : ℕ
  record_count = length itinerary / layout.record_bytes

  -- some bytes of a record, from a field on
  unfoldable pub bytes_of : ℕ → ℕ → ℕ → List ℕ
  bytes_of index field count = tabulate count 0 (λ i. get_or itinerary (offset layout index field + i) 0)

  -- ---- the fields

  unfoldable pub next_of : ℕ → ℕ
  next_of index = layout.index_at itinerary (offset layout index 0)

  unfoldable pub arrival_of : ℕ → ℕ
  arrival_of index = be16_at itinerary (offset layout index layout.arrival)

  unfoldable pub first_interface_of : ℕ → ℕ
  first_interface_of index = layout.index_at itinerary (offset layout index layout.first_interface)

  unfoldable pub key_of : ℕ → List ℕ
  key_of index = bytes_of index layout.key 16

  unfoldable pub interface_number_of : ℕ → ℕ
  interface_number_of index = be16_at itinerary (offset layout index layout.number)

  unfoldable pub interface_state_of : ℕ → ℕ
  interface_state_of index = get_or itinerary (offset layout index layout.state) 0

  -- ---- chains

  abbrev pub first_station : ℕ
  first_station = next_of 0

  -- 'chained by a next index, zero ends the chain'; no more of it than the limit
  unfoldable pub chain_within : ℕ → ℕ → List ℕ
  chain_within zero index = []
  chain_within (suc limit) index = cond (eqb index 0) [] (index ∷ chain_within limit (next_of index))

  -- the whole of it: a sound chain goes up, and so has fewer records than there are (`fewer` of soundness's proofs)
  abbrev pub chain : ℕ → List ℕ
  chain index = chain_within record_count index

  -- the records reached: the stations', and those of a station's table
  abbrev pub station_records : List ℕ
  station_records = chain first_station

  abbrev pub table_records : ℕ → List ℕ
  table_records station = chain (first_interface_of station)

  -- the record so many places behind one in its chain; behind the last one there is none
  unfoldable pub record_after : ℕ → ℕ → ℕ
  record_after index zero = index
  record_after index (suc n) = cond (eqb (record_after index n) 0) 0 (next_of (record_after index n))
