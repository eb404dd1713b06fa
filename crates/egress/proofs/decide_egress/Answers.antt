use borrow.Author.Rules.{rules}
use mathlib.Core.Path.{◌≡◌, sym, ◌∙◌}
use Rattle.std.specs.Prelude.{Err}
use Rattle.place.proofs.Places.{asked_no}
use Rattle.egress.proofs.decide_egress.Goals as goal

pub returns-in_err-validate_egress : goal.returns-in_err-validate_egress
returns-in_err-validate_egress c =
    let no : c.from_residual.result ≡ Err c.in_err-validate_egress.field-0.0 = search rules in
    no ∙ sym (asked_no Err _ _ (sym c.validate_egress.ensures ∙ c.in_err-validate_egress.was))
