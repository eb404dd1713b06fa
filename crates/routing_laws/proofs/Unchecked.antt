-- With MACs ignored no answer and no byte depends on a MAC that is worked out, and so none on the key. They do depend on the MAC field of
-- the path: a beta step takes its first two bytes.
-- Assumes nothing.
use mathlib.Core.Path.{◌≡◌, refl}
use mathlib.Core.Bool.{Bool, true, false}
use mathlib.Core.List.{List}
use Prim.Native.Nat.{ℕ}
use Rattle.std.specs.Prelude.{Ok, Err}
use Rattle.questions.specs.Questions.{asks}
use Rattle.answers.specs.Answer.{IngressAnswer}
use Rattle.answers.specs.declared.IngressNextAction.TheVariants.{ContinueEgress, Complete}
use Rattle.validator.specs.Check.{MacFunction, key_mac, at_ingress, at_egress}
use Rattle.edition.specs.declared.Edition.{Edition}
use Rattle.place.specs.Place.{changes, is_final}
use Rattle.checks.specs.Checks.{ingress_questions}
use Rattle.ingress.specs.Ingress.{ingress_action, ingress}
use Rattle.egress.specs.Egress.{egress}
use Rattle.routing.specs.Step.{step_from, step}

module _ (edition : Edition) (ids states : List ℕ) (mac other : MacFunction) (interface time : ℕ) (path : List ℕ) where
  questions_unchecked : (change : Bool) (action : IngressAnswer)
      → asks Err (ingress_questions edition ids states mac (at_ingress interface time true) path change) action
      ≡ asks Err (ingress_questions edition ids states other (at_ingress interface time true) path change) action
  unfolding asks
  questions_unchecked true action = refl
  questions_unchecked false action = refl

  pub ingress_unchecked : ingress edition ids states mac (at_ingress interface time true) path
      ≡ ingress edition ids states other (at_ingress interface time true) path
  unfolding ingress
  ingress_unchecked = rw (questions_unchecked (changes edition path) (Ok (ingress_action path interface (changes edition path) (is_final path))))

  pub egress_unchecked : egress edition ids states mac (at_egress interface time true) path
      ≡ egress edition ids states other (at_egress interface time true) path
  unfolding egress asks
  egress_unchecked = refl

pub step_unchecked : (edition : Edition) (ids states : List ℕ) (mac other : MacFunction) (interface time : ℕ) (path : List ℕ)
    → step edition ids states mac interface time true path ≡ step edition ids states other interface time true path
unfolding step step_from
step_unchecked edition ids states mac other interface time path =
    rw (ingress_unchecked edition ids states mac other interface time path)
    (go (ingress edition ids states other (at_ingress interface time true) path).answer _)
  where
    go : (answer : IngressAnswer) (bytes : List ℕ)
        → step_from edition answer ids states mac time true bytes ≡ step_from edition answer ids states other time true bytes
    go (Ok (ContinueEgress out)) bytes = rw (egress_unchecked edition ids states mac other out time bytes)
    go (Ok (Complete action)) bytes = refl
    go (Err why) bytes = refl

-- whatever the key
pub step_any_key : (edition : Edition) (ids states key another : List ℕ) (interface time : ℕ) (path : List ℕ)
    → step edition ids states (key_mac key) interface time true path ≡ step edition ids states (key_mac another) interface time true path
step_any_key edition ids states key another = step_unchecked edition ids states (key_mac key) (key_mac another)
