-- The whole step, from its halves: an ingress that goes on.
-- Assumes nothing.
use mathlib.Core.Path.{◌≡◌, refl}
use mathlib.Core.Bool.{Bool, cond}
use mathlib.Core.List.{List}
use Prim.Native.Nat.{ℕ}
use lib.Dec.{eqb}
use Rattle.std.specs.Prelude.{Result, Ok, Err}
use Rattle.standard_path.specs.Meta.{curr_hf}
use Rattle.interface_table.specs.Table.{state_of}
use Rattle.answers.specs.Questions.{first_no}
use Rattle.answers.specs.Outcome.{leaves}
use Rattle.answers.proofs.Asked.{told}
use Rattle.answers.specs.declared.StandardRoutingError.{StandardRoutingError}
use Rattle.answers.specs.declared.IngressNextAction.TheVariants.{ContinueEgress}
use Rattle.validator.specs.Check.{MacFunction, at_ingress}
use Rattle.edition.specs.declared.Edition.{Edition}
use Rattle.place.specs.Place.{egress_place}
use Rattle.moves.specs.Moves.{egress_move}
use Rattle.ingress.specs.Ingress.{ingress}
use Rattle.egress.specs.Egress.{egress_action}
use Rattle.routing.specs.Step.{leaving_questions, step}
use Rattle.routing.proofs.Inside.{step_goes_on}

-- the step after an ingress that goes on, by what is found of the way out and of the place
module _ (edition : Edition) (ids states : List ℕ) (mac : MacFunction) (interface time : ℕ) (unchecked : Bool) (path : List ℕ) (out : ℕ)
    {after : List ℕ} {here : ℕ}
    (continued : (ingress edition ids states mac (at_ingress interface time unchecked) path).answer ≡ Ok (ContinueEgress out))
    (left : after ≡ (ingress edition ids states mac (at_ingress interface time unchecked) path).bytes)
    (index : here ≡ curr_hf path) where
  pub step_by : {leaving place : Result Unit StandardRoutingError}
      → leaving ≡ first_no (leaving_questions (state_of ids states out) out after)
      → place ≡ cond (eqb (curr_hf after) here) (Ok tt) (first_no (egress_place edition after))
      → step edition ids states mac interface time unchecked path
      ≡ told (leaves Err after) leaving (told (leaves Err after) place (record { answer = Ok (egress_action after); bytes = egress_move edition after }))
  step_by l p = rw (l, p, left, index) (step_goes_on edition ids states mac interface time unchecked path out continued)

-- the answer and the bytes after an ingress that goes on, by what is found of the way out and of the place
module _ (edition : Edition) (ids states : List ℕ) (mac : MacFunction) (interface time : ℕ) (unchecked : Bool) (path : List ℕ) {out : ℕ}
    {after : List ℕ} {here : ℕ}
    (continued : (ingress edition ids states mac (at_ingress interface time unchecked) path).answer ≡ Ok (ContinueEgress out))
    (left : after ≡ (ingress edition ids states mac (at_ingress interface time unchecked) path).bytes)
    (index : here ≡ curr_hf path) where
  by : {leaving place : Result Unit StandardRoutingError}
      → leaving ≡ first_no (leaving_questions (state_of ids states out) out after)
      → place ≡ cond (eqb (curr_hf after) here) (Ok tt) (first_no (egress_place edition after))
      → step edition ids states mac interface time unchecked path
      ≡ told (leaves Err after) leaving (told (leaves Err after) place (record { answer = Ok (egress_action after); bytes = egress_move edition after }))
  by = step_by edition ids states mac interface time unchecked path out continued left index

  pub not_left : {why : StandardRoutingError} → Err why ≡ first_no (leaving_questions (state_of ids states out) out after)
      → (step edition ids states mac interface time unchecked path).bytes ≡ after
  not_left l = rw (by l refl) refl

  pub not_placed : {why : StandardRoutingError} → Ok tt ≡ first_no (leaving_questions (state_of ids states out) out after)
      → Err why ≡ cond (eqb (curr_hf after) here) (Ok tt) (first_no (egress_place edition after))
      → (step edition ids states mac interface time unchecked path).bytes ≡ after
  not_placed l p = rw (by l p) refl

  pub passed_on : Ok tt ≡ first_no (leaving_questions (state_of ids states out) out after)
      → Ok tt ≡ cond (eqb (curr_hf after) here) (Ok tt) (first_no (egress_place edition after))
      → ((step edition ids states mac interface time unchecked path).answer ≡ Ok (egress_action after))
      × ((step edition ids states mac interface time unchecked path).bytes ≡ egress_move edition after)
  passed_on l p = rw (by l p) (refl, refl)

pub ruleset steps = (not_left, not_placed, passed_on)
