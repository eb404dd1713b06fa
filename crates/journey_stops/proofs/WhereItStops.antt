-- F-1: exactly where the path does not travel the check does not pass it; and then the stop is what the journey of demand 3 meets.
-- Assumes nothing.
use mathlib.Core.Path.{◌≡◌, refl, sym, ◌∙◌}
use mathlib.Core.Bool.{Bool, true, false, cond}
use mathlib.Core.List.{List}
use Prim.Native.Nat.{ℕ}
use borrow.Author.Tests.{eq-eqb}
use lib.ListN.{length, length-replicate}
use Rattle.std.specs.Prelude.{Result, Ok, Err}
use Rattle.octets.proofs.Bools.{both}
use Rattle.questions.specs.Questions.{all_yes}
use Rattle.questions.proofs.Asked.{asks_yes}
use Rattle.answers.specs.Answer.{refusal_number}
use Rattle.edition.specs.declared.Edition.{Edition}
use Rattle.edition.specs.declared.Edition.TheVariants.{First, Second}
use Rattle.records.specs.Layout.{Layout}
use Rattle.station.specs.Station.{Station}
use Rattle.itinerary.specs.Itinerary.{stations}
use Rattle.journey_stops.specs.declared.Reading.{Reading}
use Rattle.journey_stops.specs.declared.Reading.TheVariants.{Earliest, Latest}
use Rattle.journey_stops.specs.declared.Stop.{Stop}
use Rattle.journey_questions.specs.declared.answer.JourneyError.{JourneyError}
use Rattle.journey_questions.specs.declared.answer.Verdict.{Verdict}
use Rattle.journey_questions.specs.declared.answer.Verdict.TheVariants.{Passed, NotPassed}
use Rattle.journey_questions.specs.Questions.{questions}
use Rattle.journey.specs.Journey.{Ended, nowhere, ended_at}
use Rattle.journey.specs.Check.{passes}
use Rattle.journey_stops.specs.Stop.{clocks_at, run, run_arrives, stop_of, stop, stopped_by, Meets, one_of, stop_numbers}
use Rattle.journey.specs.Verdict.{journey_check, Demand3}
use Rattle.journey_stops.specs.Told.{SaysWhereItStops}
use Rattle.journey.proofs.Stops.{one_of as among, stop_numbers as refusals}
use Rattle.journey.proofs.Ends.{stopped}
use Rattle.journey.proofs.Demand3.{demand_3}
use Rattle.journey.proofs.Consequences.{both_pass, stops_with}

-- ---- a run that was stopped, and where it stopped

-- the refusals of the crate journey's proofs are those of specs/Stop.antt
same_refusals : (edition : Edition) (n : ℕ) → one_of n (stop_numbers edition) ≡ among n (refusals edition)
same_refusals First n = refl
same_refusals Second n = refl

pub stop_met : (edition : Edition) (reading : Reading) (ended : Ended) → stopped edition ended ≡ true
    → (stopped_by (stop_of reading ended).station (stop_of reading ended).number ended ≡ true)
    × (one_of (stop_of reading ended).number (stop_numbers edition) ≡ true)
unfolding stop_of stopped_by
stop_met edition reading nowhere e = absurd cc
stop_met edition reading (ended_at k (Ok action) left) e = absurd cc
stop_met edition reading (ended_at k (Err why) left) e =
    (both (eq-eqb k k refl) (eq-eqb (refusal_number why) (refusal_number why) refl), same_refusals edition (refusal_number why) ∙ e)

reading_of : (reading : Reading) (ended : Ended) → (stop_of reading ended).reading ≡ reading
unfolding stop_of
reading_of reading nowhere = refl
reading_of reading (ended_at k answer left) = refl

-- what is answered behind the questions
abbrev concluded : Bool → Result Verdict JourneyError
concluded pass = Ok (cond pass Passed NotPassed)

module _ (edition : Edition) (layout : Layout) (itinerary : List ℕ) (earliest latest : ℕ) (path : List ℕ)
    (e : all_yes (questions edition layout itinerary earliest latest path) ≡ true) where
  abbrev route : List Station
  route = stations layout itinerary

  abbrev verdict : Result Verdict JourneyError
  verdict = journey_check edition layout itinerary earliest latest path

  told : verdict ≡ concluded (passes edition route earliest latest path)
  unfolding journey_check
  told = asks_yes Err (questions edition layout itinerary earliest latest path) _ e

  -- a run that does not arrive is stopped by a refusal
  run_stopped : (reading : ℕ) → run_arrives edition route path reading ≡ false → stopped edition (run edition route path reading) ≡ true
  run_stopped reading = stops_with edition layout itinerary earliest latest path e (clocks_at route reading) (length-replicate (length route) reading)

  abbrev Met : Stop → Type 0
  Met given =
      Meets edition route earliest latest path given.reading given.station given.number
      × (one_of given.number (stop_numbers edition) ≡ true)

  -- if both runs arrive the path passes
  late_fails : passes edition route earliest latest path ≡ false → run_arrives edition route path earliest ≡ true
      → run_arrives edition route path latest ≡ false
  late_fails p early = go (run_arrives edition route path latest) refl
    where
      go : (late : Bool) → run_arrives edition route path latest ≡ late → late ≡ false
      go false q = refl
      go true q =
          let same : concluded false ≡ Ok Passed =
          rw p at (sym told ∙ both_pass edition layout itinerary earliest latest path e early q) in
          absurd cc

  met : passes edition route earliest latest path ≡ false → Met (stop edition route earliest latest path)
  unfolding stop Meets
  met p = go (run_arrives edition route path earliest) refl
    where
      go : (early : Bool) → run_arrives edition route path earliest ≡ early
          → Met (cond early (stop_of Latest (run edition route path latest)) (stop_of Earliest (run edition route path earliest)))
      go true q =
          let there = stop_met edition Latest (run edition route path latest) (run_stopped latest (late_fails p q)) in
          rw (reading_of Latest (run edition route path latest)) ((q, there.0), there.1)
      go false q =
          let there = stop_met edition Earliest (run edition route path earliest) (run_stopped earliest q) in
          rw (reading_of Earliest (run edition route path earliest)) (there.0, there.1)

  -- the check does not pass it
  fails : (b : Bool) → concluded b ≡ Ok NotPassed → b ≡ false
  fails true q = absurd cc
  fails false q = refl

  not_passed : (b : Bool) → passes edition route earliest latest path ≡ b → (passes edition route earliest latest path ≡ true → ⊥)
      → verdict ≡ Ok NotPassed
  not_passed true p stays = absurd (stays p)
  not_passed false p stays = told ∙ rw p

pub where_it_stops : (edition : Edition) (layout : Layout) (itinerary : List ℕ) (earliest latest : ℕ) (path : List ℕ)
    → SaysWhereItStops edition layout itinerary earliest latest path (journey_check edition layout itinerary earliest latest path)
    (stop edition (stations layout itinerary) earliest latest path)
unfolding SaysWhereItStops Demand3
where_it_stops edition layout itinerary earliest latest path e =
    let checked = told edition layout itinerary earliest latest path e in
    let demanded = demand_3 edition layout itinerary earliest latest path e in
    let passing = passes edition (stations layout itinerary) earliest latest path in
    let failed : journey_check edition layout itinerary earliest latest path ≡ Ok NotPassed → passing ≡ false =
    λ q. fails edition layout itinerary earliest latest path e passing (sym checked ∙ q) in (
      (
        (λ q travels.
            let same : concluded false ≡ Ok Passed = sym q ∙ demanded.1 travels in
            absurd cc),
        (λ stays. not_passed edition layout itinerary earliest latest path e passing refl (λ p. stays (demanded.0 (checked ∙ rw p)))),
      ),
      (λ q. met edition layout itinerary earliest latest path e (failed q)),
    )
