-- Each rule of soundness and of question 23, computed both ways on small itineraries.
-- Assumes nothing.
use mathlib.Core.Path.{◌≡◌, refl}
use mathlib.Core.Bool.{Bool, true, false}
use mathlib.Core.List.{List, [], ◌∷◌, map, ◌++◌}
use Prim.Native.Nat.{ℕ, zero, suc, ◌+◌, ◌*◌}
use lib.ListN.{length, set, take}
use Rattle.interface_table.specs.Table.{ids_ascending, states_sound, table_sound}
use Rattle.records.specs.Layout.{narrow}
use Rattle.records.specs.Records.{every, record_count, bytes_of, next_of, arrival_of, first_interface_of, interface_number_of, interface_state_of, chain_within}
use Rattle.record_rules.specs.Rules.{size_sound, next_sound, are_zero, zeros_sound, head_sound}
use Rattle.soundness.specs.Soundness.{is_no_station, interface_sound, station_sound, sound_of, itinerary_sound}
use Rattle.station.specs.Station.{station_with}
use Rattle.itinerary.specs.Itinerary.{stations_of, tables_sound, arrivals_fit, plan_fits, itinerary_fits}

-- these bytes, and zeros up to n
abbrev padded : ℕ → List ℕ → List ℕ
padded zero bytes = []
padded (suc n) [] = 0 ∷ padded n []
padded (suc n) (byte ∷ bytes) = byte ∷ padded n bytes

-- two stations that share a table of two interfaces, and a record that nothing reaches
abbrev plan : List ℕ
plan =
    padded 32 (0 ∷ 1 ∷ [])
    ++ padded 32 (0 ∷ 2 ∷ 0 ∷ 0 ∷ 0 ∷ 3 ∷ [])
    ++ padded 32 (0 ∷ 0 ∷ 0 ∷ 7 ∷ 0 ∷ 3 ∷ [])
    ++ padded 32 (0 ∷ 4 ∷ 0 ∷ 7 ∷ 4 ∷ [])
    ++ padded 32 (0 ∷ 0 ∷ 0 ∷ 9 ∷ 3 ∷ [])
    ++ padded 32 (0 ∷ 99 ∷ 0 ∷ 0 ∷ 0 ∷ 99 ∷ 1 ∷ [])

-- the plan with some other bytes: each the record, the place in it, and the value
abbrev changed : List (ℕ × ℕ × ℕ) → List ℕ
changed [] = plan
changed (byte ∷ bytes) = set (changed bytes) (32 * byte.0 + byte.1) byte.2

abbrev AllAnswer : (List ℕ → Bool) → Bool → List (List ℕ) → Type 0
AllAnswer asks answer itineraries = map asks itineraries ≡ map (λ itinerary. answer) itineraries

-- ---- soundness

abbrev sound_ones : List (List ℕ)
sound_ones =
    plan
    -- no station, three stations
    ∷ changed ((0, 1, 0) ∷ [])
    ∷ changed ((2, 1, 5) ∷ (5, 1, 0) ∷ (5, 3, 1) ∷ (5, 5, 0) ∷ (5, 6, 0) ∷ [])
    -- no table
    ∷ changed ((2, 5, 0) ∷ [])
    -- any key
    ∷ changed ((1, 8, 255) ∷ (1, 23, 255) ∷ [])
    -- any bytes where nothing reaches
    ∷ changed ((5, 0, 255) ∷ (5, 31, 255) ∷ [])
    -- a state and numbers that no sound table has
    ∷ changed ((3, 4, 8) ∷ [])
    ∷ changed ((4, 3, 7) ∷ [])
    -- a table that stands before its station
    ∷ (padded 32 (0 ∷ 2 ∷ []) ++ padded 32 (0 ∷ 0 ∷ 0 ∷ 7 ∷ 4 ∷ []) ++ padded 32 (0 ∷ 0 ∷ 0 ∷ 0 ∷ 0 ∷ 1 ∷ []))
    ∷ []

sound : AllAnswer (itinerary_sound narrow) true sound_ones
unfolding every record_count bytes_of next_of first_interface_of chain_within size_sound next_sound are_zero zeros_sound
    is_no_station interface_sound station_sound head_sound sound_of
sound = refl

abbrev unsound_ones : List (List ℕ)
unsound_ones =
    -- no record, a byte more, a byte less
    []
    ∷ (plan ++ 0 ∷ [])
    ∷ take 191 plan
    -- an index not below 6, the record count: the first station's, a next, a first interface record's
    ∷ changed ((0, 1, 6) ∷ [])
    ∷ changed ((0, 0, 1) ∷ [])
    ∷ changed ((1, 1, 6) ∷ [])
    ∷ changed ((3, 1, 6) ∷ [])
    ∷ changed ((1, 5, 6) ∷ [])
    ∷ changed ((2, 4, 1) ∷ [])
    -- a next that is its own, or below it
    ∷ changed ((1, 1, 1) ∷ [])
    ∷ changed ((2, 1, 1) ∷ [])
    ∷ changed ((3, 1, 3) ∷ [])
    ∷ changed ((4, 1, 3) ∷ [])
    -- a nonzero byte at each end of each range of zeros
    ∷ changed ((0, 2, 1) ∷ [])
    ∷ changed ((0, 31, 1) ∷ [])
    ∷ changed ((1, 6, 1) ∷ [])
    ∷ changed ((1, 7, 1) ∷ [])
    ∷ changed ((2, 24, 1) ∷ [])
    ∷ changed ((2, 31, 1) ∷ [])
    ∷ changed ((3, 5, 1) ∷ [])
    ∷ changed ((4, 31, 1) ∷ [])
    -- the second station, without a table, is the first one's interface too; a third one is at the end of their table
    ∷ changed ((2, 5, 0) ∷ (1, 5, 2) ∷ [])
    ∷ changed ((4, 1, 5) ∷ (2, 1, 5) ∷ (5, 1, 0) ∷ (5, 3, 1) ∷ (5, 5, 0) ∷ (5, 6, 0) ∷ [])
    ∷ []

unsound : AllAnswer (itinerary_sound narrow) false unsound_ones
unfolding every record_count bytes_of next_of first_interface_of chain_within size_sound next_sound are_zero zeros_sound
    is_no_station interface_sound station_sound head_sound sound_of
unsound = refl

-- 2,048 records may be sound, 2,049 are not
most : (itinerary : List ℕ) → length itinerary ≡ 65536 → size_sound narrow itinerary ≡ true
unfolding record_count size_sound
most itinerary e = rw e

too_many : (itinerary : List ℕ) → length itinerary ≡ 65568 → itinerary_sound narrow itinerary ≡ false
unfolding record_count size_sound sound_of
too_many itinerary e = rw e

-- ---- question 23, for two stations

abbrev fitting_ones : List (List ℕ)
fitting_ones =
    plan
    -- no table, and an interface that is down
    ∷ changed ((2, 5, 0) ∷ [])
    ∷ changed ((3, 4, 0) ∷ [])
    ∷ []

fits : AllAnswer (λ itinerary. itinerary_fits narrow itinerary 2) true fitting_ones
unfolding every record_count bytes_of next_of first_interface_of chain_within size_sound next_sound are_zero zeros_sound
    is_no_station interface_sound station_sound head_sound sound_of
    arrival_of interface_number_of interface_state_of station_with stations_of tables_sound arrivals_fit plan_fits itinerary_fits
    ids_ascending states_sound table_sound
fits = refl

abbrev unfit_ones : List (List ℕ)
unfit_ones =
    -- unsound
    changed ((0, 2, 1) ∷ [])
    -- one station, three stations
    ∷ changed ((1, 1, 0) ∷ [])
    ∷ changed ((2, 1, 5) ∷ (5, 1, 0) ∷ (5, 3, 1) ∷ (5, 5, 0) ∷ (5, 6, 0) ∷ [])
    -- a first arrival, a later one that is 0
    ∷ changed ((1, 3, 7) ∷ [])
    ∷ changed ((2, 3, 0) ∷ [])
    -- a state of 8, equal numbers
    ∷ changed ((3, 4, 8) ∷ [])
    ∷ changed ((4, 3, 7) ∷ [])
    ∷ []

unfit : AllAnswer (λ itinerary. itinerary_fits narrow itinerary 2) false unfit_ones
unfolding every record_count bytes_of next_of first_interface_of chain_within size_sound next_sound are_zero zeros_sound
    is_no_station interface_sound station_sound head_sound sound_of
    arrival_of interface_number_of interface_state_of station_with stations_of tables_sound arrivals_fit plan_fits itinerary_fits
    ids_ascending states_sound table_sound
unfit = refl
