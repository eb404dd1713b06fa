use borrow.Author.Rules.{rules}
use mathlib.Core.Path.{refl, ap, sym, ◌∙◌}
use Rattle.validator.specs.Check.{key_mac}
use Rattle.place.proofs.Places.{placed_at, placed_nowhere}
use Rattle.place.specs.Place.{ingress_place}
use Rattle.place.specs.Inner.{stands}
use Rattle.place.specs.declared.Place.{Place}
use Rattle.ingress.proofs.Told.{ingress_told}
use Rattle.ingress.proofs.advance_ingress_with_validator.Goals as goal

pub returns-in_err-check_before : goal.returns-in_err-check_before
returns-in_err-check_before c =
    let args = c.args in
    rw (
      ingress_told args.edition args.interfaces.ids.now args.interfaces.states.now (key_mac args.forwarding_key.now) args.at args.path.now,
      ← c.check_before.ensures,
      c.in_err-check_before.was,
    ) (record { value = search rules; path_after = refl })

pub returns-in_err-place : goal.returns-in_err-place
returns-in_err-place c =
    let args = c.args in
    rw (
      ingress_told args.edition args.interfaces.ids.now args.interfaces.states.now (key_mac args.forwarding_key.now) args.at args.path.now,
      ← c.check_before.ensures,
      c.in_ok-check_before.was,
      placed_nowhere (ingress_place args.edition args.path.now) (stands args.edition args.path.now)
          (sym c.locate_ingress.ensures ∙ c.in_err-place.was),
    ) (record { value = search rules; path_after = refl })

pub returns : goal.returns
returns c =
    let args = c.args in
    let at = placed_at (ingress_place args.edition args.path.now) (stands args.edition args.path.now)
    (sym c.locate_ingress.ensures ∙ c.in_ok-place.was) in
    rw (
      ingress_told args.edition args.interfaces.ids.now args.interfaces.states.now (key_mac args.forwarding_key.now) args.at args.path.now,
      ← c.check_before.ensures,
      c.in_ok-check_before.was,
      at.0,
      ap (λ (place : Place). place.change) at.1,
      ap (λ (place : Place). place.last) at.1,
    ) (record { value = c.ingress_here.ensures.value; path_after = c.ingress_here.ensures.path_after })
