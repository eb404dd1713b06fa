-- 01, 'spec/standard.rs': the whole step. Ingress; if it goes on, whether the leaving interface is listed and up; egress.
-- Assumes nothing.
use Rattle.std.specs.Prelude.{ℕ, Bool, List, [], ◌∷◌, Option, Ok, Err}
use Rattle.standard_path.specs.Meta.{curr_hf}
use Rattle.fields.specs.Fields.{cons_dir}
use Rattle.interface_table.specs.Table.{state_of}
use Rattle.questions.specs.Questions.{asks}
use Rattle.answers.specs.Questions.{Questions}
use Rattle.validator.specs.Check.{MacFunction, is_listed, is_up_listed, at_ingress, at_egress}
use Rattle.validator.specs.declared.StandardValidator.{StandardValidator}
use Rattle.answers.specs.declared.StandardRoutingError.TheVariants.{UnknownEgressInterface, EgressInterfaceDown}
use Rattle.answers.specs.declared.IngressNextAction.TheVariants.{ContinueEgress, Complete}
use Rattle.edition.specs.declared.Edition.{Edition}
use Rattle.answers.specs.Answer.{IngressAnswer, StepAnswer}
use Rattle.answers.specs.Outcome.{Outcome, leaves}
use Rattle.place.specs.Place.{info}
use Rattle.ingress.specs.Ingress.{ingress}
use Rattle.egress.specs.Egress.{egress}

-- 15 and 17, with what the table has for the leaving interface
abbrev pub leaving_questions : Option ℕ → ℕ → List ℕ → Questions
leaving_questions listed out path =
    (is_listed listed, UnknownEgressInterface (curr_hf path) out (cons_dir (info path)))
    ∷ (is_up_listed listed, EgressInterfaceDown (curr_hf path) out)
    ∷ []

-- 15 and 17, then egress
abbrev pub leave : Edition → List ℕ → List ℕ → MacFunction → StandardValidator → List ℕ → Outcome StepAnswer
leave edition ids states mac at path =
    asks (leaves Err path) (leaving_questions (state_of ids states at.current_interface_id) at.current_interface_id path)
    (egress edition ids states mac at path)

-- from what ingress answered, on the bytes that it left
unfoldable pub step_from : Edition → IngressAnswer → List ℕ → List ℕ → MacFunction → ℕ → Bool → List ℕ → Outcome StepAnswer
step_from edition (Ok (ContinueEgress out)) ids states mac time ignored path = leave edition ids states mac (at_egress out time ignored) path
step_from edition (Ok (Complete action)) ids states mac time ignored path = record { answer = Ok action; bytes = path }
step_from edition (Err why) ids states mac time ignored path = record { answer = Err why; bytes = path }

-- the whole step of an AS on a path, in an edition: its table, the hop MAC under its key, the interface that the packet came in by, the time
unfoldable pub step : Edition → List ℕ → List ℕ → MacFunction → ℕ → ℕ → Bool → List ℕ → Outcome StepAnswer
step edition ids states mac interface time ignored path =
    let outcome = ingress edition ids states mac (at_ingress interface time ignored) path in
    step_from edition outcome.answer ids states mac time ignored outcome.bytes
