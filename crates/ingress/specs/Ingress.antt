-- 01, 'Questions in order' and 'standard/routing.rs': the ingress half, its answer and every byte that it leaves.
-- Assumes nothing.
use Rattle.std.specs.Prelude.{ℕ, Bool, not, ◌&&◌, cond, List, eqb, Ok, Err}
use Rattle.fields.specs.Fields.{cons_dir, travel_ingress, travel_egress, travel_ingress_alert}
use Rattle.questions.specs.Questions.{asks}
use Rattle.validator.specs.Check.{MacFunction}
use Rattle.validator.specs.declared.StandardValidator.{StandardValidator}
use Rattle.answers.specs.declared.LocalAsRoutingAction.TheVariants.{IngressSCMPHandleRequest, ForwardLocal}
use Rattle.answers.specs.declared.AsRoutingAction.TheVariants.{Local}
use Rattle.answers.specs.declared.IngressNextAction.{IngressNextAction}
use Rattle.answers.specs.declared.IngressNextAction.TheVariants.{ContinueEgress, Complete}
use Rattle.edition.specs.declared.Edition.{Edition}
use Rattle.answers.specs.Answer.{IngressAnswer}
use Rattle.answers.specs.Outcome.{Outcome, leaves}
use Rattle.place.specs.Place.{before, ingress_place, hop, info, next_hop, next_info, is_final, changes}
use Rattle.moves.specs.Moves.{ingress_move}
use Rattle.checks.specs.Checks.{ingress_questions}

-- ---- what is done with the packet

-- an alert is handled if its travel ingress is the interface that the packet came by
abbrev pub alerts_at_ingress : List ℕ → ℕ → Bool
alerts_at_ingress path interface =
    travel_ingress_alert (cons_dir (info path)) (hop path)
    && (not (eqb interface 0) && eqb (travel_ingress (cons_dir (info path)) (hop path)) interface)

-- where the packet leaves
abbrev pub leaving : List ℕ → Bool → ℕ
leaving path change =
    cond change
    (travel_egress (cons_dir (next_info path)) (next_hop path))
    (travel_egress (cons_dir (info path)) (hop path))

unfoldable pub ingress_action : List ℕ → ℕ → Bool → Bool → IngressNextAction
ingress_action path interface change final =
    cond (alerts_at_ingress path interface) (Complete (Local (IngressSCMPHandleRequest interface)))
    (cond final (Complete (Local ForwardLocal))
    (ContinueEgress (leaving path change)))

-- ---- the half as a whole

-- from 9 on the bytes are moved whatever is answered
unfoldable pub ingress : Edition → List ℕ → List ℕ → MacFunction → StandardValidator → List ℕ → Outcome IngressAnswer
ingress edition ids states mac at path =
    asks (leaves Err path) (before ids states path)
    (asks (leaves Err path) (ingress_place edition path)
    (record {
      answer =
          asks Err (ingress_questions edition ids states mac at path (changes edition path))
          (Ok (ingress_action path at.current_interface_id (changes edition path) (is_final path)));
      bytes = ingress_move edition path at.current_interface_id (changes edition path);
    }))
