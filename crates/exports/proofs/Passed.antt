-- The number 120 is the one of a pass and of nothing else, so that what holds of the verdict holds of the number.
-- Assumes nothing.
use mathlib.Core.Path.{◌≡◌, refl, ap, ◌∙◌}
use mathlib.Core.List.{List}
use Prim.Native.Nat.{ℕ}
use native.Mathlib.Omega.{arith}
use Rattle.std.specs.Prelude.{Result, Ok, Err}
use Rattle.standard_path.specs.declared.view.HeaderError.TheVariants.{MetaTooShort, DataTooShort, TooManyHops}
use Rattle.edition.specs.declared.Edition.{Edition}
use Rattle.records.specs.Layout.{Layout}
use Rattle.journey_questions.specs.declared.answer.JourneyError.{JourneyError}
use Rattle.journey_questions.specs.declared.answer.JourneyError.TheVariants.{HeaderFailed, UnfitItinerary, NotAtStart, AlertSet}
use Rattle.journey_questions.specs.declared.answer.Verdict.{Verdict}
use Rattle.journey_questions.specs.declared.answer.Verdict.TheVariants.{Passed, NotPassed}
use Rattle.journey.specs.Verdict.{journey_check, Demand3}
use Rattle.reply.specs.Reply.{journey_reply}
use Rattle.reply.specs.declared.Reply.{Reply}
use Rattle.exports.specs.Journey.{SaysWhatTravels}

passed_number : (answer : Result Verdict JourneyError) → (journey_reply answer).number ≡ 120 → answer ≡ Ok Passed
unfolding journey_reply
passed_number (Ok Passed) e = refl
passed_number (Ok NotPassed) e = absurd (omega arith)
passed_number (Err (HeaderFailed MetaTooShort)) e = absurd (omega arith)
passed_number (Err (HeaderFailed DataTooShort)) e = absurd (omega arith)
passed_number (Err (HeaderFailed TooManyHops)) e = absurd (omega arith)
passed_number (Err UnfitItinerary) e = absurd (omega arith)
passed_number (Err NotAtStart) e = absurd (omega arith)
passed_number (Err AlertSet) e = absurd (omega arith)

number_passed : (answer : Result Verdict JourneyError) → answer ≡ Ok Passed → (journey_reply answer).number ≡ 120
unfolding journey_reply
number_passed answer e = rw e

-- what the exported check promises of its number, from what the check does
pub number_says : {given edition : Edition} → given ≡ edition → (layout : Layout) (itinerary : List ℕ) (earliest latest : ℕ)
    (path : List ℕ) (answer : Result Verdict JourneyError) {reply : Reply} → Demand3 given layout itinerary earliest latest path answer
    → reply ≡ journey_reply answer → SaysWhatTravels edition layout itinerary earliest latest path reply.number
unfolding Demand3 SaysWhatTravels
number_says {edition = edition} same layout itinerary earliest latest path answer demand told =
    let demanded : Demand3 edition layout itinerary earliest latest path answer = rw same at demand in
    λ through.
    let exactly = demanded through in
    rw told ((λ n. exactly.0 (passed_number answer n)), (λ t. number_passed answer (exactly.1 t)))

-- both promises of the exported check, from those of the check
pub says_what_travels : (edition : Edition) (layout : Layout) (itinerary : List ℕ) (earliest latest : ℕ) (path : List ℕ)
    {answer : Result Verdict JourneyError} {reply : Reply} → answer ≡ journey_check edition layout itinerary earliest latest path
    → Demand3 edition layout itinerary earliest latest path answer → reply ≡ journey_reply answer
    → (reply ≡ journey_reply (journey_check edition layout itinerary earliest latest path))
    × SaysWhatTravels edition layout itinerary earliest latest path reply.number
says_what_travels edition layout itinerary earliest latest path {answer} e demand told =
    (told ∙ ap journey_reply e, number_says refl layout itinerary earliest latest path answer demand told)
