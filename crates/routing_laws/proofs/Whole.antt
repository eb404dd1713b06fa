-- The whole step, question by question: in place of two halves one outcome, with the bytes that a no leaves at each place.
-- Assumes nothing.
use mathlib.Core.Path.{◌≡◌, refl, ap, ◌∙◌}
use mathlib.Core.Bool.{Bool, true, false, cond}
use mathlib.Core.List.{List}
use Prim.Native.Nat.{ℕ}
use Rattle.std.specs.Prelude.{Result, Ok, Err}
use Rattle.answers.specs.declared.StandardRoutingError.{StandardRoutingError}
use Rattle.interface_table.specs.Table.{state_of}
use Rattle.answers.specs.Questions.{Questions, first_no}
use Rattle.validator.specs.Check.{MacFunction, at_ingress, at_egress}
use Rattle.answers.specs.declared.LocalAsRoutingAction.TheVariants.{IngressSCMPHandleRequest, ForwardLocal}
use Rattle.answers.specs.declared.AsRoutingAction.TheVariants.{Local}
use Rattle.answers.specs.declared.IngressNextAction.TheVariants.{ContinueEgress, Complete}
use Rattle.answers.specs.Answer.{IngressAnswer, StepAnswer}
use Rattle.edition.specs.declared.Edition.{Edition}
use Rattle.answers.specs.Outcome.{Outcome, leaves}
use Rattle.answers.proofs.Asked.{told, asks_told}
use Rattle.ingress.proofs.Told.{ingress_all_told}
use Rattle.place.specs.Place.{before, is_final, changes, ingress_place}
use Rattle.checks.specs.Checks.{ingress_questions}
use Rattle.ingress.specs.Ingress.{alerts_at_ingress, leaving, ingress_action}
use Rattle.moves.specs.Moves.{ingress_move, egress_move}
use Rattle.egress.specs.Egress.{egress_action, egress}
use Rattle.routing.specs.Step.{leaving_questions, step_from, step}
use Rattle.routing.proofs.Inside.{inside_questions, egress_after}

module _ (edition : Edition) (ids states : List ℕ) (mac : MacFunction) (interface time : ℕ) (unchecked : Bool) (path : List ℕ) where
  -- the bytes after ingress, and the interface to leave by
  abbrev pub entered : List ℕ
  entered = ingress_move edition path interface (changes edition path)

  abbrev pub way : ℕ
  way = leaving path (changes edition path)

  abbrev pub checks : Questions
  checks = ingress_questions edition ids states mac (at_ingress interface time unchecked) path (changes edition path)

  abbrev pub leaving_checks : Questions
  leaving_checks = leaving_questions (state_of ids states way) way entered

  -- egress, once ingress went on
  abbrev pub way_out : Outcome StepAnswer
  way_out =
      told (leaves Err entered) (first_no leaving_checks)
      (told (leaves Err entered) (first_no (inside_questions edition entered))
      (record { answer = Ok (egress_action entered); bytes = egress_move edition entered }))

  -- with every check passed
  abbrev pub acted : Bool → Bool → Outcome StepAnswer
  acted alert final =
      cond alert (record { answer = Ok (Local (IngressSCMPHandleRequest interface)); bytes = entered })
      (cond final (record { answer = Ok (Local ForwardLocal); bytes = entered }) way_out)

  pub step_asks : step edition ids states mac interface time unchecked path
      ≡ told (leaves Err path) (first_no (before ids states path))
      (told (leaves Err path) (first_no (ingress_place edition path))
      (told (leaves Err entered) (first_no checks) (acted (alerts_at_ingress path interface) (is_final path))))
  unfolding step step_from ingress_action
  step_asks =
      rw (ingress_all_told edition ids states mac (at_ingress interface time unchecked) path)
      (go (first_no (before ids states path)) refl (first_no (ingress_place edition path)) refl (first_no checks) refl
      (alerts_at_ingress path interface) refl (is_final path) refl)
    where
      go : (first : Result Unit StandardRoutingError) → first_no (before ids states path) ≡ first → (place : Result Unit StandardRoutingError) → first_no (ingress_place edition path) ≡ place
          → (passed : Result Unit StandardRoutingError) → first_no checks ≡ passed → (alert : Bool) → alerts_at_ingress path interface ≡ alert
          → (final : Bool) → is_final path ≡ final
          → let outcome : Outcome IngressAnswer =
          told (leaves Err path) first
          (told (leaves Err path) place
          (record {
            answer = told Err passed
                (Ok (cond alert (Complete (Local (IngressSCMPHandleRequest interface)))
                (cond final (Complete (Local ForwardLocal)) (ContinueEgress way))));
            bytes = entered;
          })) in
          step_from edition outcome.answer ids states mac time unchecked outcome.bytes
          ≡ told (leaves Err path) first (told (leaves Err path) place (told (leaves Err entered) passed (acted alert final)))
      go (Err why) a place b passed c alert d final e = refl
      go (Ok _) a (Err why) b passed c alert d final e = refl
      go (Ok _) a (Ok _) b (Err why) c alert d final e = refl
      go (Ok _) a (Ok _) b (Ok _) c true d final e = refl
      go (Ok _) a (Ok _) b (Ok _) c false d true e = refl
      go (Ok _) a (Ok _) b (Ok _) c false d false e =
          asks_told (leaves Err entered) leaving_checks (egress edition ids states mac (at_egress way time unchecked) entered)
          ∙ ap (told (leaves Err entered) (first_no leaving_checks))
          (egress_after edition ids states mac interface time unchecked path way
          (record { asked = a; placed = b; checked = c; going = rw (d, e) }))
