use mathlib.Core.Path.{refl}
use mathlib.Core.Bool.{Bool, not, ◌&&◌}
use Prim.Native.Nat.{ℕ}
use Rattle.std.proofs.Common.{rules}
use Rattle.fields.specs.Fields.{cons_ingress_alert, cons_egress_alert}
use Rattle.standard_path.specs.Header.{hop_field}
use Rattle.journey_questions.specs.Questions.{quiet}
use Rattle.segment_check.proofs.All.{all_counted}
use Rattle.journey_questions.proofs.asked.is_quiet.Goals as goal

pub returns : goal.returns
unfolding quiet
returns c =
    let holds : ℕ → Bool = λ j.
    not (cons_ingress_alert (hop_field c.args.path.now j)) && not (cons_egress_alert (hop_field c.args.path.now j)) in
    rw (← c.hop_field_count.ensures)
    (all_counted _ c.hop_field_count.result c.all.new.self c.all.result holds refl c.all.ensures.ran (λ x b q k. search rules))
