-- A run on a copy of the header, and how its end is told.
-- Assumes nothing.
use mathlib.Core.Path.{◌≡◌, refl, ap, sym, ◌∙◌}
use mathlib.Core.Bool.{Bool, true, false, not, cond, false≢true}
use mathlib.Core.List.{List}
use Prim.Native.Nat.{ℕ, suc, ◌≤◌}
use lib.Dec.{eqb}
use lib.ListN.{length, take, drop, length-replicate, take-append-drop}
use Rattle.std.specs.Prelude.{Option, None, Some, Ok, Err, is_err, IsSome, IsSomeAnd}
use Rattle.octets.proofs.Bools.{second_of}
use Rattle.questions.specs.Questions.{all_yes}
use Rattle.standard_path.specs.Header.{header_size}
use Rattle.edition.specs.declared.Edition.{Edition}
use Rattle.records.specs.Layout.{Layout}
use Rattle.station.specs.Station.{Station}
use Rattle.itinerary.specs.Itinerary.{stations}
use Rattle.header_alone.proofs.Followed.{header_whole}
use Rattle.journey_questions.specs.Questions.{questions}
use Rattle.journey_stops.specs.declared.Reading.{Reading}
use Rattle.journey_stops.specs.declared.Reading.TheVariants.{Earliest, Latest}
use Rattle.journey.specs.Journey.{Ended, nowhere, ended_at, delivers, ended_well, arrives}
use Rattle.journey_stops.specs.Stop.{clocks_at, run, run_arrives, stop_of, stop}
use Rattle.journey_stops.proofs.Behind.{ended_before, journey_followed}
use Rattle.journey.proofs.Ends.{stopped}
use Rattle.journey.proofs.Consequences.{stops_with}
use Rattle.journey_run.specs.declared.JourneyEnd.{JourneyEnd}
use Rattle.journey_run.specs.Run.{end_of}
use Rattle.journey_stop.specs.Inner.{stop_at}
use Rattle.journey_stop.proofs.Complete.{there, complete}

-- ---- the header alone decides

end_before : (rest : List ℕ) (ended : Ended) → end_of (ended_before rest ended) ≡ end_of ended
end_before rest nowhere = refl
end_before rest (ended_at k answer left) = refl

-- so a run on the header by itself ends as one on the whole path
pub run_header : (edition : Edition) (route : List Station) (path : List ℕ) (reading : ℕ) → header_size path ≤ length path
    → end_of (run edition route (take (header_size path) path) reading) ≡ end_of (run edition route path reading)
run_header edition route path reading whole =
    let header = take (header_size path) path in
    let rest = drop (header_size path) path in
    sym
    (ap (λ (bytes : List ℕ). end_of (run edition route bytes reading)) (sym (take-append-drop (header_size path) path))
    ∙ ap end_of (journey_followed edition rest 0 route (clocks_at route reading) header (header_whole path whole))
    ∙ end_before rest (run edition route header reading))

-- ---- a run that begins ends at a station: it arrives there or is stopped

end_told : (reading : Reading) (ended : Ended) (end : JourneyEnd) → end_of ended ≡ Some end → stop_at reading end ≡ stop_of reading ended
unfolding stop_of
end_told reading nowhere end e = absurd (cc)
end_told reading (ended_at k answer left) end e = let same : record { station = k; answer = answer } ≡ end = cc in rw (← same) refl

stopped_told : (edition : Edition) (ended : Ended) → stopped edition ended ≡ true → IsSomeAnd (end_of ended) (λ end. is_err end.answer ≡ true)
stopped_told edition nowhere e = absurd (false≢true e)
stopped_told edition (ended_at k (Ok action) left) e = absurd (false≢true e)
stopped_told edition (ended_at k (Err why) left) e = refl

well_told : (count : ℕ) (ended : Ended) → ended_well count ended ≡ true → IsSomeAnd (end_of ended) (λ end. is_err end.answer ≡ false)
unfolding ended_well delivers
well_told count nowhere e = absurd (false≢true e)
well_told count (ended_at k (Ok action) left) e = refl
well_told count (ended_at k (Err why) left) e = absurd (false≢true (second_of (eqb (suc k) count) false e))

some_there : (P : JourneyEnd → Type 0) (end : Option JourneyEnd) → IsSomeAnd end P → IsSome end
some_there P None nothing = absurd nothing
some_there P (Some end) holds = refl

module _ (edition : Edition) (layout : Layout) (itinerary : List ℕ) (earliest latest : ℕ) (path : List ℕ)
    (e : all_yes (questions edition layout itinerary earliest latest path) ≡ true) where
  abbrev route : List Station
  route = stations layout itinerary

  ends_told : (reading : ℕ) (arrived : Bool) → run_arrives edition route path reading ≡ arrived
      → IsSomeAnd (end_of (run edition route path reading)) (λ end. is_err end.answer ≡ not arrived)
  unfolding arrives
  ends_told reading true q = well_told (length route) (run edition route path reading) q
  ends_told reading false q =
      stopped_told edition (run edition route path reading)
      (stops_with edition layout itinerary earliest latest path e (clocks_at route reading) (length-replicate (length route) reading) q)

  ends : (reading : ℕ) → IsSome (end_of (run edition route path reading))
  ends reading = some_there _ (end_of (run edition route path reading)) (ends_told reading (run_arrives edition route path reading) refl)

  -- of a run on a copy of the header
  module _ (reading : ℕ) {copy : List ℕ} {end : Option JourneyEnd} (ran : end ≡ end_of (run edition route copy reading))
      (same : copy ≡ take (header_size path) path) where
    copied : end ≡ end_of (run edition route path reading)
    copied = ran ∙ rw same (run_header edition route path reading (there path (complete edition layout itinerary earliest latest path e)))

    pub copy_ends : IsSome end
    copy_ends = rw copied (ends reading)

    pub copy_ended : {told : JourneyEnd} → end ≡ Some told → end_of (run edition route path reading) ≡ Some told
    copy_ended is = sym copied ∙ is

  module _ {first : JourneyEnd} (early : end_of (run edition route path earliest) ≡ Some first) where
    -- it stopped, with every clock at the earliest reading
    pub stops_early : is_err first.answer ≡ true → stop_at Earliest first ≡ stop edition route earliest latest path
    unfolding stop
    stops_early s = go (run_arrives edition route path earliest) refl
      where
        go : (arrived : Bool) → run_arrives edition route path earliest ≡ arrived
            → stop_at Earliest first ≡ cond arrived (stop_of Latest (run edition route path latest)) (stop_of Earliest (run edition route path earliest))
        go true q = absurd (false≢true (sym (rw early at (ends_told earliest true q)) ∙ s))
        go false q = end_told Earliest (run edition route path earliest) first early

    -- or it arrived, and is run with every clock at the latest
    pub stops_late : is_err first.answer ≡ false → {second : JourneyEnd} → end_of (run edition route path latest) ≡ Some second
        → stop_at Latest second ≡ stop edition route earliest latest path
    unfolding stop
    stops_late s {second} late = go (run_arrives edition route path earliest) refl
      where
        go : (arrived : Bool) → run_arrives edition route path earliest ≡ arrived
            → stop_at Latest second ≡ cond arrived (stop_of Latest (run edition route path latest)) (stop_of Earliest (run edition route path earliest))
        go true q = end_told Latest (run edition route path latest) second late
        go false q = absurd (false≢true (sym s ∙ rw early at (ends_told earliest false q)))
