-- 02, F-1, 'Where the journey stops': 'the station (counted from 0) and the number that this station's whole step answers'.
-- Assumes nothing.
use Rattle.std.specs.Prelude.{ℕ, ◌≡◌, Bool, true, false, ◌&&◌, ◌||◌, cond, List, [], ◌∷◌, eqb, length, replicate, Ok, Err}
use Rattle.answers.specs.Answer.{refusal_number}
use Rattle.edition.specs.declared.Edition.{Edition}
use Rattle.edition.specs.declared.Edition.TheVariants.{First, Second}
use Rattle.station.specs.Station.{Station}
use Rattle.journey_stops.specs.declared.Reading.{Reading}
use Rattle.journey_stops.specs.declared.Reading.TheVariants.{Earliest, Latest}
use Rattle.journey_stops.specs.declared.Stop.{Stop}
use Rattle.journey_stops.specs.Number.{step_number}
use Rattle.journey.specs.Journey.{step_at, Ended, nowhere, ended_at, journey, arrives}

-- 'with every clock at' one time
abbrev pub clocks_at : List Station → ℕ → List ℕ
clocks_at route time = replicate (length route) time

-- the journey of demand 3 with such clocks, and whether it arrives
abbrev pub run : Edition → List Station → List ℕ → ℕ → Ended
run edition route path time = journey (step_at edition) 0 route (clocks_at route time) path

abbrev pub run_arrives : Edition → List Station → List ℕ → ℕ → Bool
run_arrives edition route path time = arrives (step_at edition) route (clocks_at route time) path

-- where a run ended. Question 23 lets no plan through that has no station: the first line is there since a function has to answer
unfoldable pub stop_of : Reading → Ended → Stop
stop_of reading nowhere = record { station = 0; number = 0; reading = reading }
stop_of reading (ended_at k answer left) = record { station = k; number = step_number answer; reading = reading }

-- 'with every clock at the earliest reading. Where that run arrives, it gives station and number for the latest reading.'
unfoldable pub stop : Edition → List Station → ℕ → ℕ → List ℕ → Stop
stop edition route earliest latest path =
    cond (run_arrives edition route path earliest)
    (stop_of Latest (run edition route path latest))
    (stop_of Earliest (run edition route path earliest))

-- ---- what a stop says

-- a journey that this station stopped, with a refusal of this number
unfoldable pub stopped_by : ℕ → ℕ → Ended → Bool
stopped_by station number nowhere = false
stopped_by station number (ended_at k (Ok action) left) = false
stopped_by station number (ended_at k (Err why) left) = eqb k station && eqb (refusal_number why) number

-- 'the pair given must be what the journey of demand 3 really meets', with the clocks at the reading that it names
unfoldable pub Meets : Edition → List Station → ℕ → ℕ → List ℕ → Reading → (station number : ℕ) → Type 0
Meets edition route earliest latest path Earliest station number = stopped_by station number (run edition route path earliest) ≡ true
Meets edition route earliest latest path Latest station number =
    (run_arrives edition route path earliest ≡ true) × (stopped_by station number (run edition route path latest) ≡ true)

-- ---- the refusals that stop a journey which the questions let begin

abbrev pub one_of : ℕ → List ℕ → Bool
one_of n [] = false
one_of n (x ∷ xs) = eqb n x || one_of n xs

abbrev peering_numbers : Edition → List ℕ
peering_numbers First = []
peering_numbers Second = 28 ∷ []

abbrev pub stop_numbers : Edition → List ℕ
stop_numbers edition = 5 ∷ 6 ∷ 7 ∷ 9 ∷ 10 ∷ 11 ∷ 12 ∷ 14 ∷ 15 ∷ 16 ∷ 17 ∷ 18 ∷ peering_numbers edition
