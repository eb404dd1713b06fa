-- Laws of the step's questions, by the refusal of the first no.
-- Assumes nothing.
use mathlib.Core.Path.{◌≡◌, refl}
use mathlib.Core.Bool.{Bool, true, false}
use mathlib.Core.List.{[], ◌∷◌, ◌++◌}
use Rattle.std.specs.Prelude.{Result, Ok, Err}
use Rattle.questions.specs.Questions.{asks}
use Rattle.answers.specs.Questions.{Questions, first_no}
use Rattle.answers.specs.declared.StandardRoutingError.{StandardRoutingError}

-- a yes to the first of them, and to the rest
pub asked_first : (asked : Bool) (why : StandardRoutingError) (more : Questions) → first_no ((asked, why) ∷ more) ≡ Ok tt
    → (asked ≡ true) × (first_no more ≡ Ok tt)
unfolding asks
asked_first true why more e = (refl, e)
asked_first false why more e = absurd cc

pub first_yes : (asked : Bool) (why : StandardRoutingError) (more : Questions) → first_no ((asked, why) ∷ more) ≡ Ok tt → asked ≡ true
first_yes asked why more e = (asked_first asked why more e).0

pub rest_yes : (asked : Bool) (why : StandardRoutingError) (more : Questions) → first_no ((asked, why) ∷ more) ≡ Ok tt
    → first_no more ≡ Ok tt
rest_yes asked why more e = (asked_first asked why more e).1

pub none_asked : first_no [] ≡ Ok tt
unfolding asks
none_asked = refl

pub both_yes : (asked : Bool) (why : StandardRoutingError) (more : Questions) → asked ≡ true → first_no more ≡ Ok tt
    → first_no ((asked, why) ∷ more) ≡ Ok tt
unfolding asks
both_yes asked why more a e = rw a e

-- all of the first part answered yes: the rest decides
pub goes_on_lem : (first more : Questions) → first_no first ≡ Ok tt → first_no (first ++ more) ≡ first_no more
unfolding asks
goes_on_lem [] more e = refl
goes_on_lem ((true, why) ∷ first) more e = goes_on_lem first more e
goes_on_lem ((false, why) ∷ first) more e = absurd cc

-- all answered yes: all of the last part
pub last_yes : (first more : Questions) → first_no (first ++ more) ≡ Ok tt → first_no more ≡ Ok tt
unfolding asks
last_yes [] more e = e
last_yes ((true, why) ∷ first) more e = last_yes first more e
last_yes ((false, why) ∷ first) more e = absurd cc

-- a no in the first part: it decides
pub stops : (first more : Questions) (why : StandardRoutingError) → first_no first ≡ Err why → first_no (first ++ more) ≡ Err why
unfolding asks
stops [] more why e = absurd cc
stops ((true, other) ∷ first) more why e = stops first more why e
stops ((false, other) ∷ first) more why e = e

-- all of the last part answered yes: the first part decides
pub ends_yes : (first more : Questions) → first_no more ≡ Ok tt → first_no (first ++ more) ≡ first_no first
unfolding asks
ends_yes [] more e = e
ends_yes ((true, why) ∷ first) more e = ends_yes first more e
ends_yes ((false, why) ∷ first) more e = refl

-- what is asked after the first part decides alike
pub same_append : (first more other : Questions) → first_no more ≡ first_no other → first_no (first ++ more) ≡ first_no (first ++ other)
unfolding asks
same_append [] more other e = e
same_append ((true, why) ∷ first) more other e = same_append first more other e
same_append ((false, why) ∷ first) more other e = refl

-- ---- what is asked, by the first no

abbrev pub told : {A : Type 0} → (StandardRoutingError → A) → Result Unit StandardRoutingError → A → A
told refuse (Ok _) after = after
told refuse (Err why) after = refuse why

pub asks_told : {A : Type 0} (refuse : StandardRoutingError → A) (questions : Questions) (after : A)
    → asks refuse questions after ≡ told refuse (first_no questions) after
unfolding asks
asks_told refuse [] after = refl
asks_told refuse ((true, why) ∷ more) after = asks_told refuse more after
asks_told refuse ((false, why) ∷ more) after = refl
