-- What a half of the step, or the whole, comes to: an answer, and the bytes left.
-- Assumes nothing.
use Rattle.std.specs.Prelude.{List, ℕ}
use Rattle.answers.specs.declared.StandardRoutingError.{StandardRoutingError}

pub record Outcome (A : Type 0) : Type 0 where
  pub answer : A
  pub bytes : List ℕ

-- a refusal that leaves these bytes
abbrev pub leaves : {A : Type 0} → (StandardRoutingError → A) → List ℕ → StandardRoutingError → Outcome A
leaves refuse left why = record { answer = refuse why; bytes = left }
