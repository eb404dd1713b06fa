-- 01, 'Questions in order' and 'standard/routing.rs': the egress half, its answer and every byte that it leaves.
-- Assumes nothing.
use Rattle.std.specs.Prelude.{ℕ, not, ◌&&◌, cond, List, eqb, Ok, Err}
use Rattle.fields.specs.Fields.{cons_dir, travel_egress, travel_egress_alert}
use Rattle.questions.specs.Questions.{asks}
use Rattle.validator.specs.Check.{MacFunction}
use Rattle.validator.specs.declared.StandardValidator.{StandardValidator}
use Rattle.answers.specs.declared.LocalAsRoutingAction.TheVariants.{EgressSCMPHandleRequest}
use Rattle.answers.specs.declared.AsRoutingAction.{AsRoutingAction}
use Rattle.answers.specs.declared.AsRoutingAction.TheVariants.{Local, ForwardNextHop}
use Rattle.edition.specs.declared.Edition.{Edition}
use Rattle.answers.specs.Answer.{StepAnswer}
use Rattle.answers.specs.Outcome.{Outcome, leaves}
use Rattle.place.specs.Place.{before, egress_place, hop, info}
use Rattle.moves.specs.Moves.{egress_move}
use Rattle.checks.specs.Checks.{egress_questions}

-- of a hop field and its info field: an alert is handled if its travel egress is not 0
unfoldable pub leaving_action : List ℕ → List ℕ → AsRoutingAction
leaving_action h i =
    let out = travel_egress (cons_dir i) h in
    cond (travel_egress_alert (cons_dir i) h && not (eqb out 0))
    (Local (EgressSCMPHandleRequest out))
    (ForwardNextHop out)

abbrev pub egress_action : List ℕ → AsRoutingAction
egress_action path = leaving_action (hop path) (info path)

-- from 19 on the bytes are moved whatever is answered
unfoldable pub egress : Edition → List ℕ → List ℕ → MacFunction → StandardValidator → List ℕ → Outcome StepAnswer
egress edition ids states mac at path =
    asks (leaves Err path) (before ids states path)
    (asks (leaves Err path) (egress_place edition path)
    (record { answer = asks Err (egress_questions mac at path) (Ok (egress_action path)); bytes = egress_move edition path }))
