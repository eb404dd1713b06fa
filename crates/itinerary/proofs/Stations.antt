-- What is asked of the stations, asked of their records.
-- Assumes nothing.
use mathlib.Core.Path.{◌≡◌, refl, sym, ◌∙◌}
use mathlib.Core.Bool.{Bool, true, false, cond, not, ◌&&◌}
use mathlib.Core.List.{List, [], ◌∷◌, map}
use Prim.Native.Nat.{ℕ, zero, suc, ◌<◌}
use native.Mathlib.Omega.{arith}
use borrow.Author.Tests.{eqb-true, eqb-false, eq-eqb, ne_eqb}
use lib.Dec.{eqb}
use lib.ListN.{length, get_or, length-map}
use Rattle.interface_table.specs.Table.{table_sound}
use Rattle.records.specs.Layout.{Layout}
use Rattle.records.specs.Records.{every, next_of, arrival_of, chain_within}
use Rattle.station.specs.Station.{Station, station_with}
use Rattle.itinerary.specs.Itinerary.{stations_of, tables_sound, arrivals_fit}
use Rattle.records.proofs.Every.{every_map}

get_or_map : {B : Type 0} (f : ℕ → B) (xs : List ℕ) (place : ℕ) (none : B) → place < length xs
    → get_or (map f xs) place none ≡ f (get_or xs place 0)
get_or_map f [] place none h = absurd (omega arith)
get_or_map f (x ∷ xs) zero none h = refl
get_or_map f (x ∷ xs) (suc place) none h = get_or_map f xs place none (omega arith)

module _ (layout : Layout) (itinerary : List ℕ) where
  abbrev pub has_sound_table : (ℕ → List ℕ) → ℕ → Bool
  has_sound_table table_of station =
      table_sound (station_with layout itinerary table_of station).ids (station_with layout itinerary table_of station).states

  module _ (chained : List ℕ) (table_of : ℕ → List ℕ) where
    pub tables_by_records : tables_sound (stations_of layout itinerary chained table_of) ≡ every (has_sound_table table_of) chained
    unfolding tables_sound stations_of
    tables_by_records = every_map _ (station_with layout itinerary table_of) chained

    pub count_by_records : length (stations_of layout itinerary chained table_of) ≡ length chained
    unfolding stations_of
    count_by_records = length-map chained (station_with layout itinerary table_of)

    -- a station is read from its record
    pub station_from_record : (place : ℕ) (none : Station) → place < length chained
        → get_or (stations_of layout itinerary chained table_of) place none ≡ station_with layout itinerary table_of (get_or chained place 0)
    unfolding stations_of
    station_from_record place none h = get_or_map (station_with layout itinerary table_of) chained place none h

  -- the first arrival, and the later ones
  module _ (chained : List ℕ) (table_of : ℕ → List ℕ) where
    pub none_arrives : chained ≡ [] → true ≡ arrivals_fit (stations_of layout itinerary chained table_of)
    unfolding stations_of arrivals_fit
    none_arrives e = rw e

    module _ (first : ℕ) (later : List ℕ) (e : chained ≡ first ∷ later) (arrival : ℕ) (d : arrival ≡ arrival_of layout itinerary first) where
      by_records : arrivals_fit (stations_of layout itinerary chained table_of)
          ≡ (eqb arrival 0 && every (λ station. not (eqb (arrival_of layout itinerary station) 0)) later)
      unfolding stations_of station_with arrivals_fit
      by_records =
          rw (e, d, every_map (λ station. not (eqb station.arrival 0)) (station_with layout itinerary table_of) later)

      pub first_arrives : (arrival ≡ 0 → ⊥) → eqb arrival 0 ≡ arrivals_fit (stations_of layout itinerary chained table_of)
      first_arrives n = sym (by_records ∙ rw (ne_eqb arrival 0 n))

      pub later_arrive : arrival ≡ 0 → {answer : Bool} → answer ≡ every (λ station. not (eqb (arrival_of layout itinerary station) 0)) later
          → answer ≡ arrivals_fit (stations_of layout itinerary chained table_of)
      later_arrive z a = a ∙ sym (by_records ∙ rw (eq-eqb arrival 0 z))

  -- ---- a station by its place

  abbrev after : ℕ → ℕ → List ℕ
  after limit index = chain_within layout itinerary limit (next_of layout itinerary index)

  first_record_lem : (limit index : ℕ) → 0 < limit → get_or (chain_within layout itinerary limit index) 0 0 ≡ index
  unfolding chain_within
  first_record_lem zero index h = absurd (omega arith)
  first_record_lem (suc limit) index h = go (eqb index 0) refl
    where
      go : (b : Bool) → eqb index 0 ≡ b → get_or (cond b [] (index ∷ after limit index)) 0 0 ≡ index
      go true e = sym (eqb-true index 0 e)
      go false e = refl

  -- the next station is the next record; behind the last one is 0
  pub next_record : (limit index place : ℕ) → place < length (chain_within layout itinerary limit index) → suc place < limit
      → get_or (chain_within layout itinerary limit index) (suc place) 0
      ≡ next_of layout itinerary (get_or (chain_within layout itinerary limit index) place 0)
  unfolding chain_within
  next_record zero index place h k = absurd (omega arith)
  next_record (suc limit) index place h k = go (eqb index 0) place (next_record limit (next_of layout itinerary index)) h k
    where
      go : (b : Bool) (place : ℕ)
          → ((place : ℕ) → place < length (after limit index) → suc place < limit
          → get_or (after limit index) (suc place) 0 ≡ next_of layout itinerary (get_or (after limit index) place 0))
          → place < length (cond b [] (index ∷ after limit index)) → suc place < suc limit
          → get_or (cond b [] (index ∷ after limit index)) (suc place) 0
          ≡ next_of layout itinerary (get_or (cond b [] (index ∷ after limit index)) place 0)
      go true place rest h k = absurd (omega arith)
      go false zero rest h k = first_record_lem limit (next_of layout itinerary index) (omega arith)
      go false (suc place) rest h k = rest place (omega arith) (omega arith)

  -- no record of a chain is record 0
  pub record_there : (limit index place : ℕ) → place < length (chain_within layout itinerary limit index)
      → get_or (chain_within layout itinerary limit index) place 0 ≡ 0 → ⊥
  unfolding chain_within
  record_there zero index place h e = omega arith
  record_there (suc limit) index place h e = go (eqb index 0) refl place (record_there limit (next_of layout itinerary index)) h e
    where
      go : (b : Bool) → eqb index 0 ≡ b → (place : ℕ)
          → ((place : ℕ) → place < length (after limit index) → get_or (after limit index) place 0 ≡ 0 → ⊥)
          → place < length (cond b [] (index ∷ after limit index)) → get_or (cond b [] (index ∷ after limit index)) place 0 ≡ 0 → ⊥
      go true d place rest h e = omega arith
      go false d zero rest h e = eqb-false index 0 d e
      go false d (suc place) rest h e = rest place (omega arith) e
