-- 9 to 11, or 19, 10 and 11, asked of fields that were read: the hop and the info field that are used here.
-- Assumes nothing.
use mathlib.Core.Path.{◌≡◌}
use mathlib.Core.List.{List}
use Prim.Native.Nat.{ℕ}
use Rattle.standard_path.specs.Meta.{curr_hf}
use Rattle.std.specs.Prelude.{Result}
use Rattle.answers.specs.declared.StandardRoutingError.{StandardRoutingError}
use Rattle.answers.specs.Questions.{first_no}
use Rattle.validator.specs.Check.{field_questions}
use Rattle.validator.specs.declared.StandardValidator.{StandardValidator}
use Rattle.place.specs.Place.{hop, info}

pub fields_asked : (at : StandardValidator) (path : List ℕ) {index : ℕ} {read_hop read_info : List ℕ} {answer : Result Unit StandardRoutingError}
    → index ≡ curr_hf path → read_hop ≡ hop path → read_info ≡ info path → answer ≡ first_no (field_questions at index read_hop read_info)
    → answer ≡ first_no (field_questions at (curr_hf path) (hop path) (info path))
fields_asked at path i h n e = rw (i, h, n) at e
