-- With MACs ignored 12 is a yes, so that what is asked without it decides.
-- Assumes nothing.
use mathlib.Core.Path.{◌≡◌, ◌∙◌}
use mathlib.Core.Bool.{true}
use mathlib.Core.List.{List, ◌++◌}
use Prim.Native.Nat.{ℕ}
use Rattle.std.specs.Prelude.{Ok}
use Rattle.questions.specs.Questions.{asks}
use Rattle.answers.specs.Questions.{Questions, first_no}
use Rattle.answers.proofs.Asked.{goes_on_lem}
use Rattle.validator.specs.Check.{MacFunction, field_questions, mac_questions, hop_questions}
use Rattle.validator.specs.declared.StandardValidator.{StandardValidator}

module _ (mac : MacFunction) (at : StandardValidator) (ignored : at.ignore_macs ≡ true) where
  pub mac_unasked : (index : ℕ) (hop info : List ℕ) (seg_id : ℕ) (more : Questions)
      → first_no (mac_questions mac at.ignore_macs index hop info seg_id ++ more) ≡ first_no more
  unfolding asks
  mac_unasked index hop info seg_id more = rw ignored

  pub hop_unasked : (index : ℕ) (hop info : List ℕ) (seg_id : ℕ) (more : Questions) → first_no (field_questions at index hop info) ≡ Ok tt
      → first_no (hop_questions mac at index hop info seg_id ++ more) ≡ first_no more
  hop_unasked index hop info seg_id more e =
      goes_on_lem (field_questions at index hop info) (mac_questions mac at.ignore_macs index hop info seg_id ++ more) e
      ∙ mac_unasked index hop info seg_id more
