-- 01, 'The journey, written out'. A journey runs the whole step at one station after the other, each on the bytes that the
-- one before left.
-- Assumes nothing.
use Rattle.std.specs.Prelude.{ℕ, suc, ◌≤◌, ◌<◌, ◌≡◌, Bool, true, false, ◌&&◌, List, [], ◌∷◌, eqb, length, get_or, Ok, Err}
use Rattle.answers.specs.declared.LocalAsRoutingAction.TheVariants.{IngressSCMPHandleRequest, EgressSCMPHandleRequest, ForwardLocal}
use Rattle.answers.specs.declared.AsRoutingAction.TheVariants.{Local, ForwardNextHop}
use Rattle.answers.specs.Answer.{StepAnswer}
use Rattle.answers.specs.Outcome.{Outcome}
use Rattle.validator.specs.Check.{key_mac}
use Rattle.routing.specs.Step.{step}
use Rattle.edition.specs.declared.Edition.{Edition}
use Rattle.station.specs.Station.{Station}

-- what an AS does: at its station and its clock's reading, on the bytes that it gets
abbrev pub StationStep : Type 0
StationStep = Station → ℕ → List ℕ → Outcome StepAnswer

-- 'the whole step on these bytes with that station's table, key, arrival interface and reading, MACs not ignored':
-- the definition that the contract of `handle_standard_path` cites
unfoldable pub step_at : Edition → StationStep
step_at edition station reading path =
    step edition station.ids station.states (key_mac station.key) station.arrival reading false path

-- where a journey ended: the station, counted from 0, what it answered, and the bytes left. Nowhere, if there was no station to go to
pub data Ended : Type 0 where
  nowhere : Ended
  ended_at : (station : ℕ) → StepAnswer → (left : List ℕ) → Ended

-- 'After ForwardNextHop the bytes left go to the next station .. Any other answer, each refusal among them, ends the journey there.'
unfoldable pub goes_on : StepAnswer → Bool
goes_on (Ok (ForwardNextHop interface)) = true
goes_on (Ok (Local action)) = false
goes_on (Err why) = false

-- 'the next station, if there is one'
abbrev pub some_left : List Station → Bool
some_left [] = false
some_left (station ∷ route) = true

-- at station number k: on to the rest, or the end
abbrev pub or_ends : Bool → ℕ → Outcome StepAnswer → Ended → Ended
or_ends true k outcome rest = rest
or_ends false k outcome rest = ended_at k outcome.answer outcome.bytes

-- the journey from station number k on, with the step that each runs, the stations left and a clock reading for each
unfoldable pub journey : StationStep → ℕ → List Station → List ℕ → List ℕ → Ended
journey at k [] readings path = nowhere
journey at k (station ∷ route) [] path = nowhere
journey at k (station ∷ route) (reading ∷ readings) path =
    let outcome = at station reading path in
    or_ends (goes_on outcome.answer && some_left route) k outcome (journey at (suc k) route readings outcome.bytes)

unfoldable pub delivers : StepAnswer → Bool
delivers (Ok (ForwardNextHop interface)) = false
delivers (Ok (Local ForwardLocal)) = true
delivers (Ok (Local (IngressSCMPHandleRequest interface))) = false
delivers (Ok (Local (EgressSCMPHandleRequest interface))) = false
delivers (Err why) = false

-- 'every station but the last answers ForwardNextHop and the last ForwardLocal': it ended at the last of so many, which delivers
unfoldable pub ended_well : ℕ → Ended → Bool
ended_well count nowhere = false
ended_well count (ended_at k answer left) = eqb (suc k) count && delivers answer

unfoldable pub arrives : StationStep → List Station → List ℕ → List ℕ → Bool
arrives at route readings path = ended_well (length route) (journey at 0 route readings path)

-- 'a list of clock readings, one for each station, each from earliest to latest, both included'
pub record Readings (route : List Station) (earliest latest : ℕ) (readings : List ℕ) : Type 0 where
  pub each : length readings ≡ length route
  pub from : (k : ℕ) → k < length readings → earliest ≤ get_or readings k 0
  pub to : (k : ℕ) → k < length readings → get_or readings k 0 ≤ latest

-- 'The path travels if it arrives for every such list.'
unfoldable pub Travels : StationStep → List Station → ℕ → ℕ → List ℕ → Type 0
Travels at route earliest latest path =
    (readings : List ℕ) → Readings route earliest latest readings → arrives at route readings path ≡ true
