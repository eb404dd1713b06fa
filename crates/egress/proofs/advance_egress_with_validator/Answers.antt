use borrow.Author.Rules.{rules}
use mathlib.Core.Path.{refl}
use Rattle.validator.specs.Check.{key_mac}
use Rattle.egress.proofs.Told.{egress_told}
use Rattle.egress.proofs.advance_egress_with_validator.Goals as goal

pub returns-in_err-check_before : goal.returns-in_err-check_before
returns-in_err-check_before c =
    let args = c.args in
    rw (
      egress_told args.edition args.interfaces.ids.now args.interfaces.states.now (key_mac args.forwarding_key.now) args.at args.path.now,
      ← c.check_before.ensures,
      c.in_err-check_before.was,
    ) (record { value = search rules; path_after = refl })

pub returns-in_err-check_egress_place : goal.returns-in_err-check_egress_place
returns-in_err-check_egress_place c =
    let args = c.args in
    rw (
      egress_told args.edition args.interfaces.ids.now args.interfaces.states.now (key_mac args.forwarding_key.now) args.at args.path.now,
      ← c.check_before.ensures,
      c.in_ok-check_before.was,
      ← c.check_egress_place.ensures,
      c.in_err-check_egress_place.was,
    ) (record { value = search rules; path_after = refl })
