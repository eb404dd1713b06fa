use borrow.Author.Rules.{rules}
use mathlib.Core.Path.{refl, sym, ap, ◌∙◌}
use Rattle.std.specs.Prelude.{Ok}
use Rattle.routing.proofs.Steps.{step_by}
use Rattle.routing.proofs.step.handle_standard_path.Goals as goal

pub returns-in_err-validate_leaving-clause-value : goal.returns-in_err-validate_leaving-clause-value
returns-in_err-validate_leaving-clause-value c =
    rw (step_by _ _ _ _ _ _ _ _ _ (sym c.standard_path_ingress.ensures.value ∙ c.in_ok-next_action.was ∙ ap Ok c.in-ContinueEgress.is)
    c.standard_path_ingress.ensures.path_after c.curr_hop_field_idx-hop_index.ensures
    (sym c.in_err-validate_leaving.was ∙ c.validate_leaving.ensures) refl) (search rules)

pub returns-in_err-validate_place-clause-value : goal.returns-in_err-validate_place-clause-value
returns-in_err-validate_place-clause-value c =
    rw (step_by _ _ _ _ _ _ _ _ _ (sym c.standard_path_ingress.ensures.value ∙ c.in_ok-next_action.was ∙ ap Ok c.in-ContinueEgress.is)
    c.standard_path_ingress.ensures.path_after c.curr_hop_field_idx-hop_index.ensures
    (sym c.in_ok-validate_leaving.was ∙ c.validate_leaving.ensures)
    (sym c.in_err-validate_place.was ∙ c.validate_place.ensures)) (search rules)
