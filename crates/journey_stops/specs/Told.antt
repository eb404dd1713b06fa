-- F-1, which the answer of the journey check and the stop meet together.
-- Assumes nothing.
use Rattle.std.specs.Prelude.{ℕ, ◌≡◌, true, List, ◌↔◌, Result, Ok}
use Rattle.questions.specs.Questions.{all_yes}
use Rattle.edition.specs.declared.Edition.{Edition}
use Rattle.records.specs.Layout.{Layout}
use Rattle.itinerary.specs.Itinerary.{stations}
use Rattle.journey_questions.specs.declared.answer.JourneyError.{JourneyError}
use Rattle.journey_questions.specs.declared.answer.Verdict.{Verdict}
use Rattle.journey_questions.specs.declared.answer.Verdict.TheVariants.{NotPassed}
use Rattle.journey_questions.specs.Questions.{questions}
use Rattle.journey.specs.Journey.{step_at, Travels}
use Rattle.journey_stops.specs.declared.Stop.{Stop}
use Rattle.journey_stops.specs.Stop.{Meets, one_of, stop_numbers}

-- F-1, of a verdict and a stop: for each call that 2 to 4 and 23 to 25 let through the path is not passed exactly where it does not travel;
-- and then the stop is what the journey of demand 3 meets, by one of `stop_numbers`. The definitions `journey_check` and `stop` meet it,
-- `where_it_stops` in proofs/WhereItStops.antt.
unfoldable pub SaysWhereItStops : Edition → Layout → List ℕ → ℕ → ℕ → List ℕ → Result Verdict JourneyError → Stop → Type 0
SaysWhereItStops edition layout itinerary earliest latest path verdict given =
    let route = stations layout itinerary in
    all_yes (questions edition layout itinerary earliest latest path) ≡ true
    → ((verdict ≡ Ok NotPassed) ↔ (Travels (step_at edition) route earliest latest path → ⊥))
    × (verdict ≡ Ok NotPassed
    → Meets edition route earliest latest path given.reading given.station given.number
    × (one_of given.number (stop_numbers edition) ≡ true))
