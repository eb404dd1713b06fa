-- What the loop owes that runs a journey. It has passed so many stations and has the records `rest` before it; `end` is what the last one
-- answered, and `began` is the path that it began with.
-- Assumes nothing.
use mathlib.Core.Path.{◌≡◌, refl, ◌∙◌}
use mathlib.Core.Bool.{true, false}
use mathlib.Core.List.{List, [], ◌∷◌}
use Prim.Native.Nat.{ℕ, suc, ◌+◌, ◌≤◌}
use native.Mathlib.Omega.{arith}
use lib.ListN.{length}
use Rattle.std.proofs.Math.Nat.{div-le_self}
use Rattle.std.proofs.Common.{Option, Some, None}
use Rattle.edition.specs.declared.Edition.{Edition}
use Rattle.answers.specs.Outcome.{Outcome}
use Rattle.answers.specs.Answer.{StepAnswer}
use Rattle.records.specs.Layout.{Layout}
use Rattle.records.specs.Records.{station_records, table_records, record_count, next_of}
use Rattle.records.proofs.Walks.{chain_short}
use Rattle.station.specs.Station.{station_at}
use Rattle.itinerary.specs.Itinerary.{stations_of, stations}
use Rattle.journey.specs.Journey.{step_at, Ended, ended_at, goes_on, journey}
use Rattle.journey_stops.specs.Stop.{clocks_at, run}
use Rattle.journey_run.specs.declared.JourneyEnd.{JourneyEnd}
use Rattle.journey_run.specs.Run.{end_of, left_of}

module _ (edition : Edition) (layout : Layout) (itinerary : List ℕ) (reading : ℕ) (began : List ℕ) where
  abbrev ended : Ended
  ended = run edition (stations layout itinerary) began reading

  -- the journey over the stations of these records
  abbrev ahead : ℕ → List ℕ → List ℕ → Ended
  ahead passed rest path =
      let route = stations_of layout itinerary rest (table_records layout itinerary) in
      journey (step_at edition) passed route (clocks_at route reading) path

  pub record Running (passed : ℕ) (rest : List ℕ) (end : Option JourneyEnd) (path : List ℕ) : Type 0 where
    pub on : {here : ℕ} {later : List ℕ} → rest ≡ here ∷ later → ended ≡ ahead passed rest path
    pub over : rest ≡ [] → (end ≡ end_of ended) × (path ≡ left_of began ended)

  pub begins : (rest : List ℕ) → rest ≡ station_records layout itinerary → Running 0 rest None began
  unfolding stations_of journey
  begins rest e = rw e (record { on = λ next. refl; over = λ none. rw none (refl, refl) })

  module _ {passed here : ℕ} {rest later path : List ℕ} {end : Option JourneyEnd} (running : Running passed rest end path)
      (next : rest ≡ here ∷ later) where
    abbrev at : Outcome StepAnswer
    at = step_at edition (station_at layout itinerary here) reading path

    ahead_here : ended ≡ ahead passed (here ∷ later) path
    ahead_here = rw next at (running.on next)

    -- it ends here
    pub ends_here : goes_on at.answer ≡ false → ended ≡ ended_at passed at.answer at.bytes
    unfolding stations_of journey
    ends_here e = ahead_here ∙ rw e

    -- it goes on, if there is a next station
    pub goes_further : goes_on at.answer ≡ true → Running (passed + 1) later (Some (record { station = passed; answer = at.answer })) at.bytes
    unfolding stations_of journey
    goes_further e =
        let s : passed + 1 ≡ suc passed = omega arith in
        record {
          on = λ some. rw s (ahead_here ∙ rw (some, e) refl);
          over = λ none. let there : ended ≡ ended_at passed at.answer at.bytes = ahead_here ∙ rw (none, e) refl in rw there (refl, refl);
        }

-- there are not more stations than bytes
pub stations_few : (layout : Layout) (itinerary : List ℕ) → length (station_records layout itinerary) ≤ length itinerary
unfolding record_count
stations_few layout itinerary =
    omega (arith, chain_short layout itinerary (record_count layout itinerary) (next_of layout itinerary 0), div-le_self (length itinerary) layout.record_bytes)
