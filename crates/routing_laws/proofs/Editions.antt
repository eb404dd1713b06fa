-- F-6: where the second edition is the first. On a path that is no peering path and keeps 28's rule, so on each path without P, both have
-- the same answer and the same bytes.
-- Assumes nothing.
use mathlib.Core.Path.{◌≡◌, refl, ap, ◌∙◌}
use mathlib.Core.Bool.{Bool, true, false, ◌||◌}
use mathlib.Core.List.{List, [], ◌∷◌, ◌++◌}
use Prim.Native.Nat.{ℕ}
use Rattle.std.specs.Prelude.{Ok, Err}
use Rattle.questions.specs.Questions.{asks}
use Rattle.questions.proofs.Asked.{asks_of}
use Rattle.answers.specs.Questions.{Questions}
use Rattle.validator.specs.Check.{MacFunction, at_ingress, at_egress}
use Rattle.validator.specs.declared.StandardValidator.{StandardValidator}
use Rattle.answers.specs.declared.AdvanceError.TheVariants.{MisplacedPeering}
use Rattle.answers.specs.declared.StandardRoutingError.{StandardRoutingError}
use Rattle.answers.specs.declared.StandardRoutingError.TheVariants.{AdvanceFailed}
use Rattle.answers.specs.Answer.{IngressAnswer, StepAnswer}
use Rattle.answers.specs.declared.IngressNextAction.TheVariants.{ContinueEgress, Complete}
use Rattle.edition.specs.declared.Edition.TheVariants.{First, Second}
use Rattle.answers.specs.Outcome.{Outcome, leaves}
use Rattle.edition.specs.Edition.{peering_form, peering_placed}
use Rattle.place.specs.Place.{before, ingress_place, place_questions}
use Rattle.moves.specs.Moves.{ingress_move, egress_move}
use Rattle.ingress.specs.Ingress.{ingress}
use Rattle.egress.specs.Egress.{egress}
use Rattle.routing.specs.Step.{step_from, step}
use Rattle.routing.proofs.Moved.{ingress_holds}
use Rattle.edition.proofs.Peering.{Plain, plain_kept}

module _ (ids states : List ℕ) (mac : MacFunction) (at : StandardValidator) (path : List ℕ) (plain : Plain path) where
  pub ingress_agrees : ingress Second ids states mac at path ≡ ingress First ids states mac at path
  unfolding ingress ingress_move asks
  ingress_agrees = rw (plain.placed, plain.none)

  pub egress_agrees : egress Second ids states mac at path ≡ egress First ids states mac at path
  unfolding egress egress_move asks
  egress_agrees = rw (plain.placed, plain.none)

pub step_agrees : (ids states : List ℕ) (mac : MacFunction) (interface time : ℕ) (unchecked : Bool) (path : List ℕ) → Plain path
    → step Second ids states mac interface time unchecked path ≡ step First ids states mac interface time unchecked path
unfolding step step_from
step_agrees ids states mac interface time unchecked path plain =
    let at = at_ingress interface time unchecked in
    rw (ingress_agrees ids states mac at path plain)
    (go (ingress First ids states mac at path).answer _
    (let held = ingress_holds First ids states mac at path in plain_kept held.kept held.flags plain))
  where
    go : (answer : IngressAnswer) (bytes : List ℕ) → Plain bytes
        → step_from Second answer ids states mac time unchecked bytes ≡ step_from First answer ids states mac time unchecked bytes
    go (Ok (ContinueEgress out)) bytes p = rw (egress_agrees ids states mac (at_egress out time unchecked) bytes p)
    go (Ok (Complete action)) bytes p = refl
    go (Err why) bytes p = refl

-- ---- P on a path that is no peering path: the first no of 1 to 8, else 28

misplaced_none : (path : List ℕ) → peering_placed path ≡ false → peering_form path ≡ false
unfolding peering_placed
misplaced_none path e = go (peering_form path) _ e
  where
    go : (peer rest : Bool) → (peer || rest) ≡ false → peer ≡ false
    go true rest q = q
    go false rest q = refl

-- a question that is answered no, behind others
stopped_behind : {A : Type 0} (refuse : StandardRoutingError → A) (first rest : Questions) (why : StandardRoutingError) (after : A)
    → asks refuse (first ++ ((false, why) ∷ rest)) after ≡ asks refuse first (refuse why)
unfolding asks
stopped_behind refuse [] rest why after = refl
stopped_behind refuse ((true, other) ∷ first) rest why after = stopped_behind refuse first rest why after
stopped_behind refuse ((false, other) ∷ first) rest why after = refl

abbrev misplaced : StandardRoutingError
misplaced = AdvanceFailed MisplacedPeering

module _ (ids states : List ℕ) (mac : MacFunction) (at : StandardValidator) (path : List ℕ) (e : peering_placed path ≡ false) where
  pub ingress_misplaced : ingress Second ids states mac at path
      ≡ asks (leaves Err path) (before ids states path)
      (asks (leaves Err path) (ingress_place First path) (leaves Err path misplaced))
  unfolding ingress ingress_move
  ingress_misplaced =
      rw (e, misplaced_none path e)
      (ap (asks (leaves Err path) (before ids states path))
      (stopped_behind (leaves Err path) (ingress_place First path) [] misplaced _))

  -- of egress: 5, 7 and 8
  pub egress_misplaced : egress Second ids states mac at path
      ≡ asks (leaves Err path) (before ids states path)
      (asks (leaves Err path) (place_questions path) (leaves Err path misplaced))
  unfolding egress egress_move
  egress_misplaced =
      rw (e, misplaced_none path e)
      (ap (asks (leaves Err path) (before ids states path))
      (stopped_behind (leaves Err path) (place_questions path) _ misplaced _))

-- the step is the ingress half then
pub step_misplaced : (ids states : List ℕ) (mac : MacFunction) (interface time : ℕ) (unchecked : Bool) (path : List ℕ)
    → peering_placed path ≡ false
    → step Second ids states mac interface time unchecked path
    ≡ asks (leaves Err path) (before ids states path)
    (asks (leaves Err path) (ingress_place First path) (leaves Err path misplaced))
unfolding step step_from
step_misplaced ids states mac interface time unchecked path e =
    rw (ingress_misplaced ids states mac (at_ingress interface time unchecked) path e)
    (from (before ids states path) _ _ (from (ingress_place First path) _ _ refl))
  where
    onward : Outcome IngressAnswer → Outcome StepAnswer
    onward outcome = step_from Second outcome.answer ids states mac time unchecked outcome.bytes

    from : (questions : Questions) (halfway : Outcome IngressAnswer) (whole : Outcome StepAnswer) → onward halfway ≡ whole
        → onward (asks (leaves Err path) questions halfway) ≡ asks (leaves Err path) questions whole
    from questions halfway whole same =
        asks_of onward (leaves Err path) questions halfway ∙ ap (asks (leaves Err path) questions) same
