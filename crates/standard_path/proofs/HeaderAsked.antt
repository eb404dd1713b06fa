-- A call that asks 2, 3 and 4 first, and goes by what they come to.
-- Assumes nothing.
use mathlib.Core.Path.{◌≡◌, sym, ap, ◌∙◌}
use mathlib.Core.List.{List}
use Prim.Native.Nat.{ℕ}
use Rattle.questions.specs.Questions.{asks}
use Rattle.questions.proofs.Asked.{asks_of}
use Rattle.standard_path.specs.Header.{header_questions, header_check}
use Rattle.std.specs.Prelude.{Result, Ok, Err}
use Rattle.standard_path.specs.declared.view.HeaderError.{HeaderError}

pub header_asked : {A : Type 0} (call : Result Unit HeaderError → A) (path : List ℕ)
    → call (header_check path) ≡ asks (λ why. call (Err why)) (header_questions path) (call (Ok tt))
unfolding header_check
header_asked call path = asks_of call Err (header_questions path) (Ok tt)

-- the same, where it is known what they come to
module _ {A : Type 0} (refuse : HeaderError → A) (path : List ℕ) (after : A) where
  abbrev goes_on : Result Unit HeaderError → A
  goes_on (Ok complete) = after
  goes_on (Err why) = refuse why

  pub header_refused : {why : HeaderError} → header_check path ≡ Err why → asks refuse (header_questions path) after ≡ refuse why
  header_refused e = sym (header_asked goes_on path) ∙ ap goes_on e

  pub header_complete : header_check path ≡ Ok tt → asks refuse (header_questions path) after ≡ after
  header_complete e = sym (header_asked goes_on path) ∙ ap goes_on e

pub ruleset header_answers = (header_refused, header_complete)
