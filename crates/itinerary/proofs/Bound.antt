-- How far chains have to be followed: where the station count is the one wanted and each table is sound, one station more than wanted and
-- 257 records of each table are enough to look at.
-- Assumes nothing.
use mathlib.Core.Path.{◌≡◌, sym, ◌∙◌}
use mathlib.Core.Bool.{Bool, true, ◌&&◌}
use mathlib.Core.List.{List, map}
use Prim.Native.Nat.{ℕ, ◌+◌, ◌≤◌, ◌<◌}
use native.Mathlib.Omega.{arith}
use borrow.Author.Tests.{leb-true, eqb-true}
use lib.Dec.{eqb, leb}
use lib.ListN.{length, length-map}
use Rattle.octets.proofs.Bools.{each_of, each_of_3, each_way}
use Rattle.interface_table.specs.Table.{table_sound}
use Rattle.interface_table.proofs.Entries.{sound_by_entries}
use Rattle.records.specs.Layout.{Layout}
use Rattle.records.specs.Records.{every, record_count, interface_number_of, first_interface_of, first_station}
use Rattle.records.specs.Inner.{station_records_within, table_records_within}
use Rattle.records.proofs.Every.{every_both, map_same}
use Rattle.soundness.specs.Soundness.{station_sound}
use Rattle.soundness.specs.Inner.{sound_within}
use Rattle.soundness.proofs.Chains.{same_chain, table_fewer, each_sound, stations_fewer, sound_alike}
use Rattle.station.specs.Station.{station_with}
use Rattle.itinerary.specs.Itinerary.{stations_of, tables_sound, arrivals_fit, plan_fits, itinerary_fits}
use Rattle.itinerary.specs.Inner.{stations_within, fits_within}
use Rattle.itinerary.proofs.Stations.{has_sound_table, tables_by_records, count_by_records}

table_size : (ids states : List ℕ) → table_sound ids states ≡ true → length ids ≤ 256
table_size ids states e = leb-true _ _ (each_of (leb (length ids) 256) _ (sym (sound_by_entries ids states) ∙ e)).0

module _ (layout : Layout) (itinerary : List ℕ) where
  abbrev records : ℕ
  records = record_count layout itinerary

  -- ---- tables that are the same at each station come to the same

  module _ (chained : List ℕ) (one other : ℕ → List ℕ) where
    read_alike : (station : ℕ) → other station ≡ one station
        → station_with layout itinerary other station ≡ station_with layout itinerary one station
    unfolding station_with
    read_alike station same = rw same

    stations_alike : (known : ℕ → Bool) → every known chained ≡ true
        → ((station : ℕ) → known station ≡ true → other station ≡ one station)
        → stations_of layout itinerary chained other ≡ stations_of layout itinerary chained one
    unfolding stations_of
    stations_alike known each same = map_same known _ _ chained (λ s e. read_alike s (same s e)) each

  -- ---- with the station count wanted, and sound tables

  table_few : (table_limit station : ℕ) → has_sound_table layout itinerary (table_records_within layout itinerary table_limit) station ≡ true
      → length (table_records_within layout itinerary table_limit station) ≤ 256
  unfolding station_with
  table_few table_limit station e =
      let few = table_size (map (interface_number_of layout itinerary) (table_records_within layout itinerary table_limit station)) _ e in
      rw length-map at few

  -- limits that reach as far as such stations and tables go
  record Reach (wanted station_limit table_limit : ℕ) : Type 0 where
    stations_in : wanted < records → wanted < station_limit
    table_in : (entries : ℕ) → entries ≤ 256 → entries < records → entries < table_limit

  module _ (wanted station_limit table_limit station_limit' table_limit' : ℕ) (reach : Reach wanted station_limit table_limit)
      (reach' : Reach wanted station_limit' table_limit') (e : fits_within layout itinerary station_limit table_limit wanted ≡ true) where
    abbrev reached : List ℕ
    reached = station_records_within layout itinerary station_limit

    abbrev tables : ℕ → ℕ → List ℕ
    tables limit = table_records_within layout itinerary limit

    parts : (sound_within layout itinerary station_limit table_limit ≡ true) × (length reached ≡ wanted)
        × (every (has_sound_table layout itinerary (tables table_limit)) reached ≡ true)
    unfolding fits_within
    parts =
        let read = stations_within layout itinerary station_limit table_limit in
        let held = each_of (sound_within layout itinerary station_limit table_limit && tables_sound read && arrivals_fit read) _ e in
        let plan = each_of_3 (sound_within layout itinerary station_limit table_limit) _ _ held.0 in
        let count = sym (count_by_records layout itinerary reached (tables table_limit)) ∙ eqb-true _ _ held.1 in
        (plan.0, count, sym (tables_by_records layout itinerary reached (tables table_limit)) ∙ plan.1)

    same_stations : station_records_within layout itinerary station_limit' ≡ reached
    same_stations =
        let few = stations_fewer layout itinerary station_limit (tables table_limit) parts.0 in
        let count = parts.1 in
        let below : wanted < records = omega arith in
        let one = reach.stations_in below in
        let other = reach'.stations_in below in
        same_chain layout itinerary station_limit station_limit' (first_station layout itinerary) (omega arith) (omega arith)

    abbrev known : ℕ → Bool
    known station =
        station_sound layout itinerary reached (tables table_limit) station && has_sound_table layout itinerary (tables table_limit) station

    same_table : (station : ℕ) → known station ≡ true → tables table_limit' station ≡ tables table_limit station
    same_table station q =
        let held = each_of (station_sound layout itinerary reached (tables table_limit) station) _ q in
        let few = table_few table_limit station held.1 in
        let short = table_fewer layout itinerary reached table_limit station held.0 in
        same_chain layout itinerary table_limit table_limit' (first_interface_of layout itinerary station) (reach.table_in _ few short) (reach'.table_in _ few short)

    each_known : every known reached ≡ true
    each_known = every_both _ _ _ (each_sound layout itinerary station_limit (tables table_limit) parts.0) parts.2

    same_fit : fits_within layout itinerary station_limit' table_limit' wanted ≡ fits_within layout itinerary station_limit table_limit wanted
    unfolding fits_within
    same_fit =
        let sound = sound_alike layout itinerary reached (tables table_limit) (tables table_limit') known each_known same_table in
        rw (same_stations, sound, stations_alike reached (tables table_limit) (tables table_limit') known each_known same_table)

  -- one station more than wanted, and one record more than a sound table has
  pub fits_bounded : (wanted : ℕ) → fits_within layout itinerary (wanted + 1) 257 wanted ≡ itinerary_fits layout itinerary wanted
  unfolding fits_within plan_fits itinerary_fits
  fits_bounded wanted =
      each_way _ _ (λ e. same_fit wanted (wanted + 1) 257 records records bounded whole e ∙ e)
      (λ e. same_fit wanted records records (wanted + 1) 257 whole bounded e ∙ e)
    where
      bounded : Reach wanted (wanted + 1) 257
      bounded = record { stations_in = λ below. omega arith; table_in = λ entries few below. omega arith }

      whole : Reach wanted records records
      whole = record { stations_in = λ below. below; table_in = λ entries few below. below }

  -- the same, as the code asks it
  pub fits_asked : (wanted : ℕ)
      → ((sound_within layout itinerary (wanted + 1) 257 && tables_sound (stations_within layout itinerary (wanted + 1) 257)
      && arrivals_fit (stations_within layout itinerary (wanted + 1) 257))
      && eqb (length (station_records_within layout itinerary (wanted + 1))) wanted)
      ≡ itinerary_fits layout itinerary wanted
  unfolding fits_within
  fits_asked wanted =
      let reached = station_records_within layout itinerary (wanted + 1) in
      rw (← count_by_records layout itinerary reached (table_records_within layout itinerary 257)) (fits_bounded wanted)
