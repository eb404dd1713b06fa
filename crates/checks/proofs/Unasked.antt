-- With MACs ignored each half asks all but 12.
-- Assumes nothing.
use mathlib.Core.Path.{◌≡◌, ◌∙◌}
use mathlib.Core.Bool.{true, false}
use mathlib.Core.List.{List, []}
use Prim.Native.Nat.{ℕ, ◌+◌}
use Rattle.fields.specs.Fields.{seg_id}
use Rattle.standard_path.specs.Meta.{curr_hf}
use Rattle.std.specs.Prelude.{Ok}
use Rattle.answers.specs.Questions.{first_no}
use Rattle.answers.proofs.Asked.{ends_yes, none_asked}
use Rattle.validator.specs.Check.{MacFunction, field_questions, mac_questions}
use Rattle.validator.specs.declared.StandardValidator.{StandardValidator}
use Rattle.validator.proofs.Unasked.{mac_unasked, hop_unasked}
use Rattle.edition.specs.declared.Edition.{Edition}
use Rattle.place.specs.Place.{hop, info, next_hop, next_info}
use Rattle.moves.specs.Moves.{ingress_seg_id}
use Rattle.checks.specs.Checks.{next_field_questions, next_questions, ingress_questions, egress_questions}

module _ (mac : MacFunction) (at : StandardValidator) (ignored : at.ignore_macs ≡ true) (path : List ℕ)
    (asked : first_no (field_questions at (curr_hf path) (hop path) (info path)) ≡ Ok tt) where
  pub ingress_stays : (edition : Edition) (ids states : List ℕ) → first_no (ingress_questions edition ids states mac at path false) ≡ Ok tt
  ingress_stays edition ids states =
      hop_unasked mac at ignored (curr_hf path) (hop path) (info path) (ingress_seg_id edition path at.current_interface_id) [] asked ∙ none_asked

  pub ingress_changes : (edition : Edition) (ids states : List ℕ)
      → first_no (ingress_questions edition ids states mac at path true) ≡ first_no (next_field_questions ids states at path)
  ingress_changes edition ids states =
      let last = mac_questions mac at.ignore_macs (curr_hf path + 1) (next_hop path) (next_info path) (seg_id (next_info path)) in
      hop_unasked mac at ignored (curr_hf path) (hop path) (info path) (ingress_seg_id edition path at.current_interface_id)
      (next_questions ids states mac at path) asked
      ∙ ends_yes (next_field_questions ids states at path) last
      (mac_unasked mac at ignored (curr_hf path + 1) (next_hop path) (next_info path) (seg_id (next_info path)) [] ∙ none_asked)

  pub egress_stays : first_no (egress_questions mac at path) ≡ Ok tt
  egress_stays = hop_unasked mac at ignored (curr_hf path) (hop path) (info path) (seg_id (info path)) [] asked ∙ none_asked
