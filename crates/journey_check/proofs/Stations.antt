-- Where the lengths fit and the stations are as many as 23 counts, what is asked of the stations is asked of their records.
-- Assumes nothing.
use mathlib.Core.Path.{◌≡◌, refl, ap, ap₂, sym, ◌∙◌}
use mathlib.Core.Bool.{Bool, true, false, cond, ◌&&◌}
use mathlib.Core.List.{List, [], ◌∷◌}
use Prim.Native.Nat.{ℕ, zero, suc, ◌+◌, ◌-◌, ◌≤◌, ◌<◌}
use native.Mathlib.Omega.{arith}
use borrow.Author.Tests.{eqb-true, ne_eqb}
use lib.Dec.{eqb, leb}
use lib.ListN.{length, get_or}
use Rattle.octets.proofs.Bools.{second_of}
use Rattle.fields.specs.Fields.{timestamp}
use Rattle.standard_path.specs.Header.{infos, hops, info_field}
use Rattle.edition.specs.declared.Edition.{Edition}
use Rattle.edition.specs.Edition.{peering_path}
use Rattle.records.specs.Layout.{Layout}
use Rattle.records.specs.Records.{record_count, next_of, first_station, chain_within, record_after}
use Rattle.station.specs.Station.{Station, station_at}
use Rattle.records.specs.Records.{station_records, table_records}
use Rattle.itinerary.specs.Itinerary.{stations, plan_fits, itinerary_fits}
use Rattle.itinerary.proofs.Stations.{count_by_records, next_record, record_there, station_from_record}
use Rattle.hop_check.specs.Hop.{arrives_by, leaves_by}
use Rattle.segment_check.specs.Segment.{each_below, segment_fits, start_of, count_of, hop_of, segment_fits_from}
use Rattle.segment_check.proofs.All.{all_same, at_most_three}
use Rattle.joint_check.specs.Joint.{change_fits}
use Rattle.joint_check.specs.Inner.{joint_fits_from}
use Rattle.journey_questions.specs.Lengths.{shared}
use Rattle.journey.specs.Check.{no_station, station_of, segment_passes, joint_passes}
use Rattle.journey.proofs.Lengths.{Shape, all_long, station_among, start_enough, fit_shape}
use Rattle.journey.proofs.Facts.{shared_linked}
use Rattle.journey.proofs.LetThrough.{infos_few}
use Rattle.journey_questions.specs.Inner.{first_record, first_records}
use Rattle.journey_check.specs.Inner.{Matched}

module _ (layout : Layout) (itinerary : List ℕ) where
  abbrev pub records : List ℕ
  records = station_records layout itinerary

  -- 23 counts the stations
  pub fits_counted : (wanted : ℕ) → itinerary_fits layout itinerary wanted ≡ true → length (stations layout itinerary) ≡ wanted
  unfolding itinerary_fits
  fits_counted wanted e = eqb-true _ _ (second_of (plan_fits layout itinerary) _ e)

  chain_short : (limit index : ℕ) → length (chain_within layout itinerary limit index) ≤ limit
  unfolding chain_within
  chain_short zero index = omega arith
  chain_short (suc limit) index = go (eqb index 0) (chain_short limit (next_of layout itinerary index))
    where
      go : (b : Bool) → length (chain_within layout itinerary limit (next_of layout itinerary index)) ≤ limit
          → length (cond b [] (index ∷ chain_within layout itinerary limit (next_of layout itinerary index))) ≤ suc limit
      go true h = omega arith
      go false h = omega arith

  -- so many places on in the chain, so many records on
  record_after_lem : (place m : ℕ) → place + m < length records
      → get_or records (place + m) 0 ≡ record_after layout itinerary (get_or records place 0) m
  unfolding record_after
  record_after_lem place zero h = let e : place + 0 ≡ place = omega arith in rw e
  record_after_lem place (suc m) h =
      let e : place + suc m ≡ suc (place + m) = omega arith in
      let limit = record_count layout itinerary in
      let first = first_station layout itinerary in
      let short = chain_short limit first in
      let there = record_there layout itinerary limit first (place + m) (omega arith) in
      let next = next_record layout itinerary limit first (place + m) (omega arith) (omega arith) in
      rw (e, next, ← record_after_lem place m (omega arith), ne_eqb _ 0 there)

  module _ (edition : Edition) (path : List ℕ) (matched : Matched edition layout itinerary path) where
    shape : Shape edition path
    shape = fit_shape edition path matched.fit

    -- no segment starts before the stations that it shares
    pub starts_behind : (s : ℕ) → s < infos path → shared edition path s ≤ start_of path s
    starts_behind s h = start_enough shape s h

    pub some_hops : (s : ℕ) → s < infos path → 1 ≤ count_of path s
    some_hops s h = all_long shape s h

    counts : (peer : Bool) {n : ℕ} → n ≡ cond peer (hops path) (hops path - infos path + 1) → n + cond peer 1 (infos path) ≡ hops path + 1
    counts true e = omega arith
    counts false e = omega (arith, infos_few path)

    -- each hop has a station
    among : (s m : ℕ) → s < infos path → m < count_of path s → start_of path s - shared edition path s + m < length records
    among s m h w =
        let there = station_among shape s m h w in
        let count = count_by_records layout itinerary records (table_records layout itinerary) in
        let many = counts (peering_path edition path) (sym count ∙ matched.counted) in
        omega (arith, there, starts_behind s h, many)

    pub station_read : (s m : ℕ) → s < infos path → m < count_of path s
        → station_of edition (stations layout itinerary) path s m
        ≡ station_at layout itinerary (record_after layout itinerary (get_or records (start_of path s - shared edition path s) 0) m)
    station_read s m h w =
        station_from_record layout itinerary records (table_records layout itinerary)
        (start_of path s - shared edition path s + m) no_station (among s m h w)
        ∙ ap (station_at layout itinerary) (record_after_lem (start_of path s - shared edition path s) m (among s m h w))

    -- ---- what is asked of the records that the segments start at

    three : (s : ℕ) → s < 3 → get_or (first_records edition layout itinerary path) s 0 ≡ first_record edition layout itinerary path s
    three zero h = refl
    three (suc zero) h = refl
    three (suc (suc zero)) h = refl
    three (suc (suc (suc s))) h = absurd (omega arith)

    module _ {firsts : List ℕ} (e : firsts ≡ first_records edition layout itinerary path) where
      first_read : (s : ℕ) → s < infos path → get_or firsts s 0 ≡ first_record edition layout itinerary path s
      first_read s h = rw e (three s (at_most_three path s h))

      pub segments_read : (earliest latest : ℕ)
          → each_below (infos path) (λ s. segment_fits_from edition layout itinerary (get_or firsts s 0) earliest latest path s)
          ≡ each_below (infos path) (segment_passes edition (stations layout itinerary) earliest latest path)
      unfolding segment_passes segment_fits
      segments_read earliest latest =
          all_same (infos path) _ _
          (λ s h. ap (λ (x : Bool). leb (timestamp (info_field path s)) earliest && x)
          (all_same (count_of path s) _ _ (λ m w. rw (first_read s h, ← station_read s m h w))))

      -- the first hop's station, over a peering link, and the second's
      here_read : (s : ℕ) → s < infos path → peering_path edition path ≡ true
          → station_at layout itinerary (get_or records (start_of path s + (count_of path s - 1)) 0)
          ≡ station_of edition (stations layout itinerary) path s (count_of path s - 1)
      here_read s h p =
          let w : count_of path s - 1 < count_of path s = omega (arith, some_hops s h) in
          let index : start_of path s + (count_of path s - 1) ≡ start_of path s - shared edition path s + (count_of path s - 1) =
          omega (arith, shared_linked edition path p s) in
          rw index
          (sym (station_from_record layout itinerary records (table_records layout itinerary)
          (start_of path s - shared edition path s + (count_of path s - 1)) no_station (among s (count_of path s - 1) h w)))

      next_read : (s : ℕ) → s < infos path
          → station_at layout itinerary (get_or firsts s 0) ≡ station_of edition (stations layout itinerary) path s 0
      unfolding record_after
      next_read s h = rw (first_read s h) (sym (station_read s 0 h (omega (arith, some_hops s h))))

      joint_read : (s : ℕ) → s + 1 < infos path
          → joint_fits_from edition layout itinerary (get_or firsts (s + 1) 0) path s
          ≡ joint_passes edition (stations layout itinerary) path s
      unfolding joint_passes
      joint_read s h = go (peering_path edition path) refl
        where
          here : Station
          here = station_at layout itinerary (get_or records (start_of path s + (count_of path s - 1)) 0)

          here' : Station
          here' = station_of edition (stations layout itinerary) path s (count_of path s - 1)

          next : Station
          next = station_at layout itinerary (get_or firsts (s + 1) 0)

          next' : Station
          next' = station_of edition (stations layout itinerary) path (s + 1) 0

          asked : Bool → Station → Station → Bool
          asked peer one other =
              cond peer (leaves_by one (info_field path s) (hop_of path s (count_of path s - 1)))
              (change_fits other (info_field path s) (hop_of path s (count_of path s - 1)) (info_field path (s + 1)) (hop_of path (s + 1) 0))
              && arrives_by other (info_field path (s + 1)) (hop_of path (s + 1) 0)

          go : (peer : Bool) → peering_path edition path ≡ peer → asked peer here next ≡ asked peer here' next'
          go true p = ap₂ (asked true) (here_read s (omega arith) p) (next_read (s + 1) h)
          go false p = ap (asked false here) (next_read (s + 1) h)

      pub joints_read :
          each_below (infos path - 1) (λ s. joint_fits_from edition layout itinerary (get_or firsts (s + 1) 0) path s)
          ≡ each_below (infos path - 1) (joint_passes edition (stations layout itinerary) path)
      joints_read = all_same (infos path - 1) _ _ (λ s h. joint_read s (omega arith))
