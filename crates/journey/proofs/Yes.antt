-- Questions of the step that are all answered yes, and what goes through them: an answer that is no refusal.
-- Assumes nothing.
use mathlib.Core.Path.{◌≡◌, refl, ap, sym, ◌∙◌}
use mathlib.Core.Bool.{Bool, true, false, ◌&&◌, and-true}
use mathlib.Core.List.{List}
use Prim.Native.Nat.{ℕ}
use Rattle.std.specs.Prelude.{Ok, Err}
use Rattle.std.specs.Result.{is_ok}
use Rattle.questions.specs.Questions.{all_yes}
use Rattle.questions.proofs.Asked.{asks_yes, through as asks-through}
use Rattle.answers.specs.Questions.{Questions, first_no}
use Rattle.answers.specs.Outcome.{Outcome, leaves}
use Rattle.answers.specs.declared.StandardRoutingError.{StandardRoutingError}
use Rattle.answers.specs.Answer.{StepAnswer}
use Rattle.answers.proofs.Asked.{told, asks_told}

pub valid_yes : (qs : Questions) → is_ok (first_no qs) ≡ all_yes qs
valid_yes qs = asks-through Err is_ok (λ why. refl) qs (Ok tt) ∙ and-true (all_yes qs)

pub yes_valid : (qs : Questions) → all_yes qs ≡ true → first_no qs ≡ Ok tt
yes_valid qs e = asks_yes Err qs (Ok tt) e

module _ (holds : StepAnswer → Bool) (none : (why : StandardRoutingError) → holds (Err why) ≡ false) where
  pub through : (qs : Questions) (left : List ℕ) (more : Outcome StepAnswer)
      → holds (told (leaves Err left) (first_no qs) more).answer ≡ (all_yes qs && holds more.answer)
  through qs left more =
      ap (λ o. holds o.answer) (sym (asks_told (leaves Err left) qs more))
      ∙ asks-through (leaves Err left) (λ o. holds o.answer) none qs more

pub passed_through : (qs : Questions) (left : List ℕ) (more : Outcome StepAnswer) → all_yes qs ≡ true
    → told (leaves Err left) (first_no qs) more ≡ more
passed_through qs left more e = rw (yes_valid qs e)
