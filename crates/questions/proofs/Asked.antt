-- Laws of questions in order, over any list of them.
-- Assumes nothing.
use mathlib.Core.Path.{◌≡◌, refl, ap, sym, ◌∙◌}
use mathlib.Core.Bool.{Bool, true, false, ◌&&◌, cond, and_assoc, false≢true}
use mathlib.Core.List.{[], ◌∷◌, ◌++◌}
use Rattle.questions.specs.Questions.{Questions, asks, all_yes, within}

module _ {R : Type 0} where
  pub yes_append : (first more : Questions R) → all_yes (first ++ more) ≡ (all_yes first && all_yes more)
  unfolding all_yes
  yes_append [] more = refl
  yes_append (question ∷ first) more =
      ap (λ (b : Bool). question.0 && b) (yes_append first more) ∙ sym (and_assoc question.0 (all_yes first) (all_yes more))

module _ {R A : Type 0} (refuse : R → A) where
  -- each answered yes: what comes after them decides
  pub asks_yes : (questions : Questions R) (after : A) → all_yes questions ≡ true → asks refuse questions after ≡ after
  unfolding asks all_yes
  asks_yes [] after e = refl
  asks_yes ((true, why) ∷ more) after e = asks_yes more after e
  asks_yes ((false, why) ∷ more) after e = absurd (false≢true e)

  pub asks_append : (first more : Questions R) (after : A)
      → asks refuse (first ++ more) after ≡ asks refuse first (asks refuse more after)
  unfolding asks
  asks_append [] more after = refl
  asks_append (question ∷ first) more after =
      ap (λ (a : A). cond question.0 a (refuse question.1)) (asks_append first more after)

  -- a test that no refusal meets
  pub through : (holds : A → Bool) → ((why : R) → holds (refuse why) ≡ false) → (questions : Questions R) (after : A)
      → holds (asks refuse questions after) ≡ (all_yes questions && holds after)
  unfolding asks all_yes
  through holds none [] after = refl
  through holds none ((true, why) ∷ more) after = through holds none more after
  through holds none ((false, why) ∷ more) after = none why

-- a function of what they come to
pub asks_of : {R A B : Type 0} (f : A → B) (refuse : R → A) (questions : Questions R) (after : A)
    → f (asks refuse questions after) ≡ asks (λ why. f (refuse why)) questions (f after)
unfolding asks
asks_of f refuse [] after = refl
asks_of f refuse ((true, why) ∷ more) after = asks_of f refuse more after
asks_of f refuse ((false, why) ∷ more) after = refl

-- as part of a call that has more refusals
pub asks_within : {R S A : Type 0} (refusal : R → S) (refuse : S → A) (questions : Questions R) (after : A)
    → asks refuse (within refusal questions) after ≡ asks (λ why. refuse (refusal why)) questions after
unfolding asks
asks_within refusal refuse [] after = refl
asks_within refusal refuse ((true, why) ∷ more) after = asks_within refusal refuse more after
asks_within refusal refuse ((false, why) ∷ more) after = refl
