-- The refusals that a journey can stop with: 5, 6, 7, 9 to 12, 14 to 18, and, in the second edition, 28.
-- Assumes nothing.
use mathlib.Core.Path.{◌≡◌, refl, sym}
use mathlib.Core.Bool.{Bool, true, false, ◌&&◌, ◌||◌, false≢true}
use mathlib.Core.List.{List, [], ◌∷◌, ◌++◌}
use mathlib.Core.Logic.{◌⊎◌, inr}
use Prim.Native.Nat.{ℕ}
use lib.Dec.{eqb}
use Rattle.std.specs.Prelude.{Result, Ok, Err}
use Rattle.questions.specs.Questions.{all_yes, asks}
use Rattle.answers.proofs.Asked.{told}
use Rattle.octets.proofs.Bools.{first_of, second_of}
use Rattle.answers.specs.Answer.{refusal_number}
use Rattle.answers.specs.Questions.{Questions, first_no}
use Rattle.answers.specs.declared.StandardRoutingError.{StandardRoutingError}
use Rattle.answers.specs.Answer.{StepAnswer}
use Rattle.answers.specs.Outcome.{Outcome, leaves}
use Rattle.routing_laws.proofs.Numbers.{numbers}
use Rattle.edition.specs.declared.Edition.{Edition}
use Rattle.edition.specs.declared.Edition.TheVariants.{First, Second}
use Rattle.edition.specs.Edition.{peering_fits, peering_questions}
use Rattle.journey.specs.Journey.{goes_on, delivers}

-- ---- numbers

abbrev pub one_of : ℕ → List ℕ → Bool
one_of n [] = false
one_of n (x ∷ xs) = eqb n x || one_of n xs

-- those that a journey can stop with
abbrev peering_numbers : Edition → List ℕ
peering_numbers First = []
peering_numbers Second = 28 ∷ []

abbrev pub stop_numbers : Edition → List ℕ
stop_numbers edition = 5 ∷ 6 ∷ 7 ∷ 9 ∷ 10 ∷ 11 ∷ 12 ∷ 14 ∷ 15 ∷ 16 ∷ 17 ∷ 18 ∷ peering_numbers edition

abbrev pub within : List ℕ → List ℕ → Bool
within [] more = true
within (x ∷ xs) more = one_of x more && within xs more

abbrev pub refused_with : List ℕ → StepAnswer → Bool
refused_with ns (Ok action) = false
refused_with ns (Err why) = one_of (refusal_number why) ns

-- the refusal of a list of questions has one of their numbers
refused_among : (qs : Questions) (why : StandardRoutingError) (ns : List ℕ) → within (numbers qs) ns ≡ true → first_no qs ≡ Err why
    → one_of (refusal_number why) ns ≡ true
unfolding asks
refused_among [] why ns e q = absurd cc
refused_among ((true, other) ∷ qs) why ns e q = refused_among qs why ns (second_of (one_of (refusal_number other) ns) _ e) q
refused_among ((false, other) ∷ qs) why ns e q =
    let same : other ≡ why = cc in
    rw (sym same) (first_of (one_of (refusal_number other) ns) _ e)

-- a no among the first questions ends with one of their numbers
pub first_refused : (edition : Edition) (qs rs : Questions) (left : List ℕ) (more : Outcome StepAnswer)
    → within (numbers qs) (stop_numbers edition) ≡ true → all_yes qs ≡ false
    → refused_with (stop_numbers edition) (told (leaves Err left) (first_no (qs ++ rs)) more).answer ≡ true
unfolding asks all_yes
first_refused edition [] rs left more e q = absurd (false≢true (sym q))
first_refused edition ((true, why) ∷ qs) rs left more e q =
    first_refused edition qs rs left more (second_of (one_of (refusal_number why) (stop_numbers edition)) _ e) q
first_refused edition ((false, why) ∷ qs) rs left more e q = first_of (one_of (refusal_number why) (stop_numbers edition)) _ e

-- so does 28
pub peering_refused : (edition : Edition) (path : List ℕ) (more : Outcome StepAnswer) → peering_fits edition path ≡ false
    → refused_with (stop_numbers edition) (told (leaves Err path) (first_no (peering_questions edition path)) more).answer ≡ true
unfolding asks
peering_refused First path more e = absurd (false≢true (sym e))
peering_refused Second path more e = rw e

-- what holds of an answer, or it is a refusal with one of the numbers
abbrev pub Or : Edition → (StepAnswer → Bool) → StepAnswer → Type 0
Or edition holds answer = (holds answer ≡ true) ⊎ (refused_with (stop_numbers edition) answer ≡ true)

pub or_through : (edition : Edition) (holds : StepAnswer → Bool) (qs : Questions) (left : List ℕ) (more : Outcome StepAnswer)
    → within (numbers qs) (stop_numbers edition) ≡ true → Or edition holds more.answer
    → Or edition holds (told (leaves Err left) (first_no qs) more).answer
or_through edition holds qs left more e h = go (first_no qs) refl
  where
    go : (v : Result Unit StandardRoutingError) → first_no qs ≡ v → Or edition holds (told (leaves Err left) v more).answer
    go (Ok _) q = h
    go (Err why) q = inr (refused_among qs why (stop_numbers edition) e q)

-- a refusal neither goes on nor delivers
pub refused_stays : (ns : List ℕ) (answer : StepAnswer) → refused_with ns answer ≡ true → goes_on answer ≡ false
unfolding goes_on
refused_stays ns (Ok action) e = absurd (false≢true e)
refused_stays ns (Err why) e = refl

pub refused_undelivered : (ns : List ℕ) (answer : StepAnswer) → refused_with ns answer ≡ true → delivers answer ≡ false
unfolding delivers
refused_undelivered ns (Ok action) e = absurd (false≢true e)
refused_undelivered ns (Err why) e = refl
