-- The ingress half, by the first no of each list of questions.
-- Assumes nothing.
use mathlib.Core.Path.{◌≡◌, ap, ◌∙◌}
use mathlib.Core.List.{List}
use Prim.Native.Nat.{ℕ}
use Rattle.std.specs.Prelude.{Ok, Err}
use Rattle.questions.specs.Questions.{asks}
use Rattle.answers.specs.Questions.{first_no}
use Rattle.answers.specs.Outcome.{Outcome, leaves}
use Rattle.answers.specs.Answer.{IngressAnswer}
use Rattle.answers.proofs.Asked.{told, asks_told}
use Rattle.validator.specs.Check.{MacFunction}
use Rattle.validator.specs.declared.StandardValidator.{StandardValidator}
use Rattle.edition.specs.declared.Edition.{Edition}
use Rattle.place.specs.Place.{before, ingress_place, changes, is_final}
use Rattle.moves.specs.Moves.{ingress_move}
use Rattle.checks.specs.Checks.{ingress_questions}
use Rattle.ingress.specs.Ingress.{ingress_action, ingress}

module _ (edition : Edition) (ids states : List ℕ) (mac : MacFunction) (at : StandardValidator) (path : List ℕ) where
  abbrev pub moved : Outcome IngressAnswer
  moved = record {
    answer = asks Err (ingress_questions edition ids states mac at path (changes edition path))
        (Ok (ingress_action path at.current_interface_id (changes edition path) (is_final path)));
    bytes = ingress_move edition path at.current_interface_id (changes edition path);
  }

  pub ingress_told : ingress edition ids states mac at path
      ≡ told (leaves Err path) (first_no (before ids states path)) (told (leaves Err path) (first_no (ingress_place edition path)) moved)
  unfolding ingress
  ingress_told =
      asks_told (leaves Err path) (before ids states path) (asks (leaves Err path) (ingress_place edition path) moved)
      ∙ ap (told (leaves Err path) (first_no (before ids states path))) (asks_told (leaves Err path) (ingress_place edition path) moved)

  -- and its answer too
  abbrev pub answered : Outcome IngressAnswer
  answered = record {
    answer = told Err (first_no (ingress_questions edition ids states mac at path (changes edition path)))
        (Ok (ingress_action path at.current_interface_id (changes edition path) (is_final path)));
    bytes = ingress_move edition path at.current_interface_id (changes edition path);
  }

  pub ingress_all_told : ingress edition ids states mac at path
      ≡ told (leaves Err path) (first_no (before ids states path)) (told (leaves Err path) (first_no (ingress_place edition path)) answered)
  ingress_all_told =
      ingress_told
      ∙ ap (λ answer. told (leaves Err path) (first_no (before ids states path))
      (told (leaves Err path) (first_no (ingress_place edition path)) (record { answer = answer; bytes = ingress_move edition path at.current_interface_id (changes edition path) })))
      (asks_told Err (ingress_questions edition ids states mac at path (changes edition path))
      (Ok (ingress_action path at.current_interface_id (changes edition path) (is_final path))))
