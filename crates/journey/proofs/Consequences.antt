-- What follows from demand 3's proof, for each call that 2 to 4 and 23 to 25 let through. That the readings do not change the bytes that a
-- journey leaves is `same_bytes` in Readings.antt, on all inputs.
-- Assumes nothing.
use mathlib.Core.Path.{◌≡◌, refl, sym, ◌∙◌}
use mathlib.Core.Bool.{Bool, true, false, cond, false≢true}
use mathlib.Core.List.{List}
use mathlib.Core.Logic.{inr, ⊎_elim}
use Prim.Native.Nat.{ℕ, ◌+◌, ◌≤◌}
use native.Mathlib.Omega.{arith}
use lib.ListN.{length, replicate}
use Rattle.std.specs.Prelude.{Ok, Err}
use Rattle.questions.proofs.Asked.{asks_yes}
use Rattle.questions.specs.Questions.{all_yes}
use Rattle.standard_path.specs.Header.{infos, hops}
use Rattle.edition.specs.declared.Edition.{Edition}
use Rattle.edition.specs.Edition.{peering_path}
use Rattle.records.specs.Layout.{Layout}
use Rattle.station.specs.Station.{Station}
use Rattle.itinerary.specs.Itinerary.{stations}
use Rattle.journey_questions.specs.declared.answer.Verdict.TheVariants.{Passed}
use Rattle.journey.specs.Journey.{StationStep, step_at, journey, arrives}
use Rattle.journey_questions.specs.Questions.{questions}
use Rattle.journey.specs.Verdict.{journey_check}
use Rattle.journey.proofs.Lengths.{linked_infos}
use Rattle.journey.proofs.Parts.{shared_first}
use Rattle.journey.proofs.Laws.{Laws}
use Rattle.journey.proofs.AtStation.{at_station}
use Rattle.journey.proofs.Ends.{stopped, Ends, ends_from}
use Rattle.journey.proofs.LetThrough.{Asked, infos_few, asked}
use Rattle.journey.proofs.Demand3.{starts, reached, first_or_stopped, two_runs}

module _ {edition : Edition} {at : StationStep} (laws : Laws edition at) {path : List ℕ} {plan : List Station} {earliest latest : ℕ}
    (a : Asked edition path plan earliest latest) where
  some_stations : 1 ≤ length plan
  some_stations = go (peering_path edition path) refl a.counted.many
    where
      go : (peer : Bool) → peering_path edition path ≡ peer → length plan + cond peer 1 (infos path) ≡ hops path + 1 → 1 ≤ length plan
      go true p many = omega (arith, infos_few path, linked_infos edition path p)
      go false p many = omega (arith, infos_few path)

  ends : (readings : List ℕ) → length readings ≡ length plan → Ends edition (length plan) (journey at 0 plan readings path)
  ends readings each =
      let count : length plan ≡ 0 + length plan = omega arith in
      ⊎_elim
      (λ first.
      rw count
      (ends_from laws a.given plan readings 0 0 0 path (starts a) first (reached a)
      (omega (arith, a.counted.many, shared_first edition path), each)))
      inr
      (first_or_stopped laws a plan readings a.sound some_stations (omega (arith, some_stations)))

module _ (edition : Edition) (layout : Layout) (itinerary : List ℕ) (earliest latest : ℕ) (path : List ℕ)
    (e : all_yes (questions edition layout itinerary earliest latest path) ≡ true) where
  abbrev plan : List Station
  plan = stations layout itinerary

  -- if it arrives with every clock at the earliest reading, and with every clock at the latest, the check passes
  pub both_pass : arrives (step_at edition) plan (replicate (length plan) earliest) path ≡ true
      → arrives (step_at edition) plan (replicate (length plan) latest) path ≡ true
      → journey_check edition layout itinerary earliest latest path ≡ Ok Passed
  unfolding journey_check
  both_pass early late =
      asks_yes Err (questions edition layout itinerary earliest latest path) _ e
      ∙ rw (two_runs (at_station edition) (asked edition layout itinerary earliest latest path e) early late)

  -- a journey that does not arrive ends with a refusal, by 5, 6, 7, 9 to 12, 14 to 18, or, in the second edition, 28
  pub stops_with : (readings : List ℕ) → length readings ≡ length plan → arrives (step_at edition) plan readings path ≡ false
      → stopped edition (journey (step_at edition) 0 plan readings path) ≡ true
  unfolding arrives
  stops_with readings each fails =
      ⊎_elim (λ well. absurd (false≢true (sym fails ∙ well))) (λ s. s)
      (ends (at_station edition) (asked edition layout itinerary earliest latest path e) readings each)
