-- What the check answers: from what is found of the header, questions 2, 3 and 4, and then the rest.
-- Assumes nothing.
use mathlib.Core.Path.{◌≡◌, refl, sym, ◌∙◌}
use mathlib.Core.Bool.{Bool, true, false, cond, ◌&&◌}
use mathlib.Core.List.{List}
use Prim.Native.Nat.{ℕ, ◌+◌, ◌-◌}
use lib.ListN.{length, drop, get_or}
use Rattle.std.specs.Prelude.{Result, Ok, Err}
use Rattle.octets.proofs.Bools.{first_of}
use Rattle.questions.specs.Questions.{asks, within}
use Rattle.questions.proofs.Asked.{asks_append, asks_within}
use Rattle.standard_path.specs.Header.{infos, header_questions, header_check}
use Rattle.standard_path.proofs.HeaderAsked.{header_refused, header_complete}
use Rattle.standard_path.specs.declared.view.HeaderError.{HeaderError}
use Rattle.edition.specs.declared.Edition.{Edition}
use Rattle.edition.specs.Edition.{peering_fits}
use Rattle.records.specs.Layout.{Layout}
use Rattle.itinerary.specs.Itinerary.{stations, itinerary_fits}
use Rattle.segment_check.specs.Segment.{each_below, segment_fits_from}
use Rattle.joint_check.specs.Inner.{joint_fits_from}
use Rattle.journey_questions.specs.Inner.{first_records}
use Rattle.journey_questions.specs.Lengths.{lengths_pass}
use Rattle.journey_questions.specs.declared.answer.JourneyError.{JourneyError}
use Rattle.journey_questions.specs.declared.answer.JourneyError.TheVariants.{HeaderFailed}
use Rattle.journey_questions.specs.declared.answer.Verdict.{Verdict}
use Rattle.journey_questions.specs.declared.answer.Verdict.TheVariants.{Passed, NotPassed}
use Rattle.journey.specs.Check.{passes}
use Rattle.journey_questions.specs.Questions.{station_count, questions}
use Rattle.journey.specs.Verdict.{journey_check, Demand3}
use Rattle.journey.proofs.Demand3.{demand_3}
use Rattle.journey_check.specs.Inner.{Matched}
use Rattle.journey_check.proofs.Stations.{fits_counted, segments_read, joints_read}

module _ (edition : Edition) (layout : Layout) (itinerary : List ℕ) (earliest latest : ℕ) (path : List ℕ) where
  -- 23 and what comes after it
  abbrev pub later : Result Verdict JourneyError
  later =
      asks Err (drop 3 (questions edition layout itinerary earliest latest path))
      (Ok (cond (passes edition (stations layout itinerary) earliest latest path) Passed NotPassed))

  check_asked : journey_check edition layout itinerary earliest latest path
      ≡ asks (λ why. Err (HeaderFailed why)) (header_questions path) later
  unfolding journey_check
  check_asked =
      asks_append Err (within HeaderFailed (header_questions path)) (drop 3 (questions edition layout itinerary earliest latest path)) _
      ∙ asks_within HeaderFailed Err (header_questions path) later

  pub check_refused : {why : HeaderError} → header_check path ≡ Err why
      → journey_check edition layout itinerary earliest latest path ≡ Err (HeaderFailed why)
  check_refused e = check_asked ∙ header_refused _ path later e

  pub check_complete : header_check path ≡ Ok tt → journey_check edition layout itinerary earliest latest path ≡ later
  check_complete e = check_asked ∙ header_complete _ path later e

  -- 23 counts the stations
  pub counted : {asked : Bool} (ordered : Bool) (wanted : ℕ) → asked ≡ (itinerary_fits layout itinerary wanted && ordered) → asked ≡ true
      → length (stations layout itinerary) ≡ wanted
  counted ordered wanted e q = fits_counted layout itinerary wanted (first_of (itinerary_fits layout itinerary wanted) _ (sym e ∙ q))

  -- what is asked one after the other for a pass
  pub misplaced : peering_fits edition path ≡ false → false ≡ passes edition (stations layout itinerary) earliest latest path
  unfolding passes
  misplaced e = rw e refl

  pub mislength : peering_fits edition path ≡ true → lengths_pass edition path ≡ false
      → false ≡ passes edition (stations layout itinerary) earliest latest path
  unfolding passes
  mislength placed e = rw (placed, e) refl

  pub passes_read : length (stations layout itinerary) ≡ station_count edition path → peering_fits edition path ≡ true
      → lengths_pass edition path ≡ true → {firsts : List ℕ} → firsts ≡ first_records edition layout itinerary path → {segments joints : Bool}
      → segments ≡ each_below (infos path) (λ s. segment_fits_from edition layout itinerary (get_or firsts s 0) earliest latest path s)
      → joints ≡ each_below (infos path - 1) (λ s. joint_fits_from edition layout itinerary (get_or firsts (s + 1) 0) path s)
      → (segments && joints) ≡ passes edition (stations layout itinerary) earliest latest path
  unfolding passes
  passes_read count placed long e f g =
      let matched : Matched edition layout itinerary path = record { fit = long; counted = count } in
      rw (placed, long, f, g, segments_read layout itinerary edition path matched e earliest latest, joints_read layout itinerary edition path matched e) refl

  -- demand 3, of what the check answers
  pub answers_demand : {verdict : Result Verdict JourneyError} → verdict ≡ journey_check edition layout itinerary earliest latest path
      → Demand3 edition layout itinerary earliest latest path verdict
  answers_demand e = rw e (demand_3 edition layout itinerary earliest latest path)

-- what the functions name
pub ruleset check_answers = (check_refused, check_complete, counted)

pub ruleset pass_answers = (misplaced, mislength)
