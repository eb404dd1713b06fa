-- The questions of the step, and what a list of them comes to.
-- Assumes nothing.
use Rattle.std.specs.Prelude.{Result, Ok, Err}
use Rattle.questions.specs.Questions as vocabulary
use Rattle.questions.specs.Questions.{asks}
use Rattle.answers.specs.declared.StandardRoutingError.{StandardRoutingError}

abbrev pub Questions : Type 0
Questions = vocabulary.Questions StandardRoutingError

-- the refusal of the first no, if there is one
abbrev pub first_no : Questions → Result Unit StandardRoutingError
first_no questions = asks Err questions (Ok tt)
