-- A journey depends on the header alone: with more bytes behind a complete header it ends at the same station with the same answer, and
-- leaves those bytes behind the header that it leaves.
-- Assumes nothing.
use mathlib.Core.Path.{◌≡◌, refl}
use mathlib.Core.Bool.{Bool, true, false, ◌&&◌}
use mathlib.Core.List.{List, [], ◌∷◌, ◌++◌}
use Prim.Native.Nat.{ℕ, suc}
use lib.ListN.{length}
use Rattle.answers.specs.Outcome.{Outcome}
use Rattle.answers.specs.Answer.{StepAnswer}
use Rattle.validator.specs.Check.{key_mac}
use Rattle.edition.specs.declared.Edition.{Edition}
use Rattle.routing.proofs.Moved.{step_holds}
use Rattle.header_alone.proofs.Followed.{Whole, whole_kept}
use Rattle.header_alone.proofs.HeaderAlone.{followed, step_followed}
use Rattle.station.specs.Station.{Station}
use Rattle.journey.specs.Journey.{step_at, Ended, nowhere, ended_at, goes_on, some_left, or_ends, journey}

abbrev pub ended_before : List ℕ → Ended → Ended
ended_before rest nowhere = nowhere
ended_before rest (ended_at k answer left) = ended_at k answer (left ++ rest)

-- the step at a station keeps the path's length
pub at_size : (edition : Edition) (station : Station) (reading : ℕ) (path : List ℕ)
    → length (step_at edition station reading path).bytes ≡ length path
unfolding step_at
at_size edition station reading path =
    (step_holds edition station.ids station.states (key_mac station.key) station.arrival reading false path).kept.size

module _ (edition : Edition) (rest : List ℕ) where
  at_followed : (station : Station) (reading : ℕ) (path : List ℕ) → Whole path
      → step_at edition station reading (path ++ rest) ≡ followed rest (step_at edition station reading path)
  unfolding step_at
  at_followed station reading path whole =
      step_followed edition station.ids station.states (key_mac station.key) station.arrival reading false path rest whole

  at_whole : (station : Station) (reading : ℕ) (path : List ℕ) → Whole path → Whole (step_at edition station reading path).bytes
  unfolding step_at
  at_whole station reading path =
      whole_kept
      (step_holds edition station.ids station.states (key_mac station.key) station.arrival reading false path).kept

  or_ends_lem : (on : Bool) (k : ℕ) (outcome : Outcome StepAnswer) (later : Ended)
      → or_ends on k (followed rest outcome) (ended_before rest later) ≡ ended_before rest (or_ends on k outcome later)
  or_ends_lem true k outcome later = refl
  or_ends_lem false k outcome later = refl

  pub journey_followed : (k : ℕ) (route : List Station) (readings path : List ℕ) → Whole path
      → journey (step_at edition) k route readings (path ++ rest) ≡ ended_before rest (journey (step_at edition) k route readings path)
  unfolding journey
  journey_followed k [] readings path whole = refl
  journey_followed k (station ∷ route) [] path whole = refl
  journey_followed k (station ∷ route) (reading ∷ readings) path whole =
      let outcome = step_at edition station reading path in
      rw (
        at_followed station reading path whole,
        journey_followed (suc k) route readings outcome.bytes (at_whole station reading path whole),
      )
      (or_ends_lem (goes_on outcome.answer && some_left route) k outcome (journey (step_at edition) (suc k) route readings outcome.bytes))
