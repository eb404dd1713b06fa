-- The egress half, by the first no of each list of questions.
-- Assumes nothing.
use mathlib.Core.Path.{◌≡◌, ap, ◌∙◌}
use mathlib.Core.List.{List}
use Prim.Native.Nat.{ℕ}
use Rattle.std.specs.Prelude.{Ok, Err}
use Rattle.questions.specs.Questions.{asks}
use Rattle.answers.specs.Questions.{first_no}
use Rattle.answers.specs.Outcome.{Outcome, leaves}
use Rattle.answers.specs.Answer.{StepAnswer}
use Rattle.answers.proofs.Asked.{told, asks_told}
use Rattle.validator.specs.Check.{MacFunction}
use Rattle.validator.specs.declared.StandardValidator.{StandardValidator}
use Rattle.edition.specs.declared.Edition.{Edition}
use Rattle.place.specs.Place.{before, egress_place}
use Rattle.moves.specs.Moves.{egress_move}
use Rattle.checks.specs.Checks.{egress_questions}
use Rattle.egress.specs.Egress.{egress_action, egress}

module _ (edition : Edition) (ids states : List ℕ) (mac : MacFunction) (at : StandardValidator) (path : List ℕ) where
  abbrev pub moved : Outcome StepAnswer
  moved = record { answer = asks Err (egress_questions mac at path) (Ok (egress_action path)); bytes = egress_move edition path }

  pub egress_told : egress edition ids states mac at path
      ≡ told (leaves Err path) (first_no (before ids states path)) (told (leaves Err path) (first_no (egress_place edition path)) moved)
  unfolding egress
  egress_told =
      asks_told (leaves Err path) (before ids states path) (asks (leaves Err path) (egress_place edition path) moved)
      ∙ ap (told (leaves Err path) (first_no (before ids states path))) (asks_told (leaves Err path) (egress_place edition path) moved)

  -- and its answer too
  abbrev pub answered : Outcome StepAnswer
  answered = record {
    answer = told Err (first_no (egress_questions mac at path))
        (Ok (egress_action path));
    bytes = egress_move edition path;
  }

  pub egress_all_told : egress edition ids states mac at path
      ≡ told (leaves Err path) (first_no (before ids states path)) (told (leaves Err path) (first_no (egress_place edition path)) answered)
  egress_all_told =
      egress_told
      ∙ ap (λ answer. told (leaves Err path) (first_no (before ids states path))
      (told (leaves Err path) (first_no (egress_place edition path)) (record { answer = answer; bytes = egress_move edition path })))
      (asks_told Err (egress_questions mac at path)
      (Ok (egress_action path)))
