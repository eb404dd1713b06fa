-- 01, 'Questions in order', over any type of refusals: a question is a test with the refusal for a no.
-- Assumes nothing.
use Rattle.std.specs.Prelude.{Bool, true, ◌&&◌, cond, List, [], ◌∷◌, map}

abbrev pub Question : Type 0 → Type 0
Question R = Bool × R

abbrev pub Questions : Type 0 → Type 0
Questions R = List (Question R)

-- asked one after the other: what the first no comes to, else what comes after them
unfoldable pub asks : {R A : Type 0} → (R → A) → Questions R → A → A
asks refuse [] after = after
asks refuse (question ∷ more) after = cond question.0 (asks refuse more after) (refuse question.1)

-- whether each is answered yes
unfoldable pub all_yes : {R : Type 0} → Questions R → Bool
all_yes [] = true
all_yes (question ∷ more) = question.0 && all_yes more

-- the same questions, as part of a call that has more refusals
abbrev pub within : {R S : Type 0} → (R → S) → Questions R → Questions S
within refusal questions = map (λ question. (question.0, refusal question.1)) questions
