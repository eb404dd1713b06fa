use mathlib.Core.Path.{sym, ◌∙◌}
use Rattle.journey_check.proofs.Verdicts.{passes_read}
use Rattle.journey_check.proofs.verdict.passes.Goals as goal

pub returns : goal.returns
returns c =
    passes_read _ _ _ _ _ _ c.requires (sym c.peering_fits.ensures ∙ c.if-not-peering_fits.false)
    (sym c.lengths_pass.ensures ∙ c.if-not-lengths_pass.false) c.first_stations-firsts.ensures c.segments_fit.ensures c.joints_fit.ensures
