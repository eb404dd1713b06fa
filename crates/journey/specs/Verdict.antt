-- The answer of the journey check: the questions, then the conditions of a pass. And demand 3, which it meets.
-- Assumes nothing.
use Rattle.std.specs.Prelude.{ℕ, ◌≡◌, true, cond, List, ◌↔◌, Result, Ok, Err}
use Rattle.questions.specs.Questions.{asks, all_yes}
use Rattle.edition.specs.declared.Edition.{Edition}
use Rattle.records.specs.Layout.{Layout}
use Rattle.itinerary.specs.Itinerary.{stations}
use Rattle.journey_questions.specs.declared.answer.JourneyError.{JourneyError}
use Rattle.journey_questions.specs.declared.answer.Verdict.{Verdict}
use Rattle.journey_questions.specs.declared.answer.Verdict.TheVariants.{Passed, NotPassed}
use Rattle.journey_questions.specs.Questions.{questions}
use Rattle.journey.specs.Journey.{step_at, Travels}
use Rattle.journey.specs.Check.{passes}

unfoldable pub journey_check : Edition → Layout → List ℕ → ℕ → ℕ → List ℕ → Result Verdict JourneyError
journey_check edition layout itinerary earliest latest path =
    asks Err (questions edition layout itinerary earliest latest path)
    (Ok (cond (passes edition (stations layout itinerary) earliest latest path) Passed NotPassed))

-- Demand 3, of a verdict: for each call that 2 to 4 and 23 to 25 let through it is passed exactly if the path travels.
-- The check's definition, `journey_check`, meets it: `demand-3` in proofs/Demand3.antt. So does the check's code, by its contract.
unfoldable pub Demand3 : Edition → Layout → List ℕ → ℕ → ℕ → List ℕ → Result Verdict JourneyError → Type 0
Demand3 edition layout itinerary earliest latest path verdict =
    all_yes (questions edition layout itinerary earliest latest path) ≡ true
    → (verdict ≡ Ok Passed) ↔ Travels (step_at edition) (stations layout itinerary) earliest latest path
