-- 01, 'Questions in order': what each half asks of the hops that it uses, once it is known where the path stands.
-- Assumes nothing.
use Rattle.std.specs.Prelude.{ℕ, ◌+◌, Bool, cond, List, [], ◌++◌}
use Rattle.standard_path.specs.Meta.{curr_hf}
use Rattle.fields.specs.Fields.{seg_id}
use Rattle.answers.specs.Questions.{Questions}
use Rattle.validator.specs.Check.{MacFunction, field_questions, mac_questions, hop_questions, change_questions}
use Rattle.validator.specs.declared.StandardValidator.{StandardValidator}
use Rattle.edition.specs.declared.Edition.{Edition}
use Rattle.place.specs.Place.{hop, info, next_hop, next_info}
use Rattle.moves.specs.Moves.{ingress_seg_id}

-- ---- ingress: 9 to 12, and at a segment change 13 to 16 and 9 to 12 for the next hop

-- 13 to 16, and 9 to 11 for the next hop
abbrev pub next_field_questions : List ℕ → List ℕ → StandardValidator → List ℕ → Questions
next_field_questions ids states at path =
    change_questions ids states (curr_hf path) (hop path) (info path) (next_hop path) (next_info path)
    ++ field_questions at (curr_hf path + 1) (next_hop path) (next_info path)

abbrev pub next_questions : List ℕ → List ℕ → MacFunction → StandardValidator → List ℕ → Questions
next_questions ids states mac at path =
    next_field_questions ids states at path
    ++ mac_questions mac at.ignore_macs (curr_hf path + 1) (next_hop path) (next_info path) (seg_id (next_info path))

abbrev pub ingress_questions : Edition → List ℕ → List ℕ → MacFunction → StandardValidator → List ℕ → Bool → Questions
ingress_questions edition ids states mac at path change =
    hop_questions mac at (curr_hf path) (hop path) (info path) (ingress_seg_id edition path at.current_interface_id)
    ++ cond change (next_questions ids states mac at path) []

-- ---- egress: 19, 10, 11, 12

abbrev pub egress_questions : MacFunction → StandardValidator → List ℕ → Questions
egress_questions mac at path = hop_questions mac at (curr_hf path) (hop path) (info path) (seg_id (info path))
