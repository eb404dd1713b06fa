-- 01, 'Questions in order': the refusals of each list of questions have 01's numbers, in 01's order.
-- Assumes nothing.
use Prim.Native.Nat.{ℕ}
use mathlib.Core.Bool.{Bool, true, false}
use mathlib.Core.List.{List, [], ◌∷◌, map}
use mathlib.Core.Path.{◌≡◌, refl}
use Rattle.std.specs.Prelude.{Option}
use Rattle.answers.specs.Answer.{refusal_number}
use Rattle.answers.specs.Questions.{Questions}
use Rattle.validator.specs.Check.{MacFunction, hop_questions, change_questions, at_ingress, at_egress}
use Rattle.edition.specs.declared.Edition.{Edition}
use Rattle.edition.specs.declared.Edition.TheVariants.{First, Second}
use Rattle.place.specs.Place.{before, ingress_place, egress_place}
use Rattle.checks.specs.Checks.{ingress_questions, egress_questions}
use Rattle.routing.specs.Step.{leaving_questions}

-- the number for a no to each question
abbrev pub numbers : Questions → List ℕ
numbers questions = map (λ question. refusal_number question.1) questions

-- 'Before everything'
pub before_numbers : (ids states path : List ℕ) → numbers (before ids states path) ≡ 1 ∷ 2 ∷ 3 ∷ 4 ∷ []
before_numbers ids states path = refl

-- 'Ingress': 8 is asked of the info field here, and at a segment change of the next one
pub ingress_place_numbers : (path : List ℕ) → numbers (ingress_place First path) ≡ 5 ∷ 6 ∷ 7 ∷ 8 ∷ 8 ∷ []
ingress_place_numbers path = refl

-- F-6: '28, second edition only, right after 8'
pub ingress_place_numbers_second : (path : List ℕ) → numbers (ingress_place Second path) ≡ 5 ∷ 6 ∷ 7 ∷ 8 ∷ 8 ∷ 28 ∷ []
ingress_place_numbers_second path = refl

pub hop_numbers_at_ingress : (mac : MacFunction) (interface time : ℕ) (unchecked : Bool) (index : ℕ) (hop info : List ℕ) (seg_id : ℕ)
    → numbers (hop_questions mac (at_ingress interface time unchecked) index hop info seg_id) ≡ 9 ∷ 10 ∷ 11 ∷ 12 ∷ []
hop_numbers_at_ingress mac interface time unchecked index hop info seg_id = refl

-- 'At a segment change': 13 is asked of either hop
pub change_numbers : (ids states : List ℕ) (index : ℕ) (hop info next_hop next_info : List ℕ)
    → numbers (change_questions ids states index hop info next_hop next_info) ≡ 13 ∷ 13 ∷ 14 ∷ 15 ∷ 16 ∷ []
change_numbers ids states index hop info next_hop next_info = refl

module _ (edition : Edition) (ids states : List ℕ) (mac : MacFunction) (interface time : ℕ) (unchecked : Bool) (path : List ℕ) where
  -- the whole list behind 8
  pub ingress_numbers : numbers (ingress_questions edition ids states mac (at_ingress interface time unchecked) path false)
      ≡ 9 ∷ 10 ∷ 11 ∷ 12 ∷ []
  ingress_numbers = refl

  pub ingress_numbers_at_change : numbers (ingress_questions edition ids states mac (at_ingress interface time unchecked) path true)
      ≡ 9 ∷ 10 ∷ 11 ∷ 12 ∷ 13 ∷ 13 ∷ 14 ∷ 15 ∷ 16 ∷ 9 ∷ 10 ∷ 11 ∷ 12 ∷ []
  ingress_numbers_at_change = refl

-- 'Whole step only'
pub leaving_numbers : (listed : Option ℕ) (out : ℕ) (path : List ℕ) → numbers (leaving_questions listed out path) ≡ 15 ∷ 17 ∷ []
leaving_numbers listed out path = refl

-- 'Egress'
pub egress_place_numbers : (path : List ℕ) → numbers (egress_place First path) ≡ 5 ∷ 7 ∷ 8 ∷ 5 ∷ 18 ∷ []
egress_place_numbers path = refl

pub egress_place_numbers_second : (path : List ℕ) → numbers (egress_place Second path) ≡ 5 ∷ 7 ∷ 8 ∷ 28 ∷ 5 ∷ 18 ∷ []
egress_place_numbers_second path = refl

pub egress_numbers : (mac : MacFunction) (interface time : ℕ) (unchecked : Bool) (path : List ℕ)
    → numbers (egress_questions mac (at_egress interface time unchecked) path) ≡ 19 ∷ 10 ∷ 11 ∷ 12 ∷ []
egress_numbers mac interface time unchecked path = refl
