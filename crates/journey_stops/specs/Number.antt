-- The number of what the step answers.
-- Assumes nothing.
use Rattle.std.specs.Prelude.{ℕ, Ok, Err}
use Rattle.answers.specs.Answer.{StepAnswer, refusal_number, action_number}

abbrev pub step_number : StepAnswer → ℕ
step_number (Ok action) = action_number action
step_number (Err why) = refusal_number why
