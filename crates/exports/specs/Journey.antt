-- Demand 3, of the number that the exported journey check answers.
-- Assumes nothing.
use Rattle.std.specs.Prelude.{ℕ, ◌≡◌, true, List, ◌↔◌}
use Rattle.questions.specs.Questions.{all_yes}
use Rattle.edition.specs.declared.Edition.{Edition}
use Rattle.records.specs.Layout.{Layout}
use Rattle.itinerary.specs.Itinerary.{stations}
use Rattle.journey_questions.specs.Questions.{questions}
use Rattle.journey.specs.Journey.{step_at, Travels}

-- for each call that 2 to 4 and 23 to 25 let through it is 120 exactly if the path travels
unfoldable pub SaysWhatTravels : Edition → Layout → List ℕ → ℕ → ℕ → List ℕ → ℕ → Type 0
SaysWhatTravels edition layout itinerary earliest latest path number =
    all_yes (questions edition layout itinerary earliest latest path) ≡ true
    → (number ≡ 120) ↔ Travels (step_at edition) (stations layout itinerary) earliest latest path
