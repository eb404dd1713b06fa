use borrow.Author.Rules.{rules}
use mathlib.Core.Path.{◌≡◌, sym, ◌∙◌}
use Rattle.std.specs.Prelude.{Err}
use Rattle.place.proofs.Places.{asked_no}
use Rattle.ingress.proofs.decide_ingress.Goals as goal

pub returns-in_err-validate_ingress : goal.returns-in_err-validate_ingress
returns-in_err-validate_ingress c =
    let no : c.from_residual.result ≡ Err c.in_err-validate_ingress.field-0.0 = search rules in
    no ∙ sym (asked_no Err _ _ (sym c.validate_ingress.ensures ∙ c.in_err-validate_ingress.was))
