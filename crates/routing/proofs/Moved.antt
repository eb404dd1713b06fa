-- What the step keeps, whatever it answers: the length and the three lengths, so that a yes to 2, 3 and 4 stays one; each byte past the
-- header; and P of each info field.
-- Assumes nothing.
use mathlib.Core.Path.{◌≡◌, refl, ap, subst, ◌∙◌}
use mathlib.Core.Bool.{Bool, true, false, cond}
use mathlib.Core.List.{List}
use Prim.Native.Nat.{ℕ, ◌+◌, ◌<◌}
use borrow.Author.Tests.{ltb-true}
use lib.Dec.{eqb}
use lib.ListN.{drop}
use Rattle.standard_path.specs.Meta.{curr_inf, curr_hf, set_curr_inf, set_curr_hf}
use Rattle.fields.specs.Fields.{cons_dir, peering}
use Rattle.standard_path.specs.Header.{infos, hops, header_size, info_field, header_questions}
use Rattle.std.specs.Prelude.{Result, Ok, Err}
use Rattle.questions.specs.Questions.{within}
use Rattle.writes.specs.Writes.{clear_ingress_alert}
use Rattle.standard_path.proofs.Kept.{Kept, kept_self, kept_trans, infos_kept, hops_kept, header_size_kept}
use Rattle.writes.proofs.SegIdSet.{seg_id_kept, seg_id_past}
use Rattle.writes.proofs.AlertCleared.{alert_kept, alert_past, alert_info}
use Rattle.standard_path.proofs.IndexSet.{set_hf_kept, set_hf_past, set_hf_info, set_inf_kept, set_inf_past, set_inf_info}
use Rattle.answers.specs.Questions.{first_no}
use Rattle.validator.specs.Check.{MacFunction, at_ingress, at_egress}
use Rattle.validator.specs.declared.StandardValidator.{StandardValidator}
use Rattle.answers.specs.declared.StandardRoutingError.{StandardRoutingError}
use Rattle.answers.specs.Answer.{IngressAnswer}
use Rattle.answers.specs.declared.IngressNextAction.TheVariants.{ContinueEgress, Complete}
use Rattle.answers.proofs.Asked.{first_yes, rest_yes, told, asks_told}
use Rattle.answers.specs.declared.StandardRoutingError.TheVariants.{HeaderFailed}
use Rattle.edition.specs.declared.Edition.{Edition}
use Rattle.answers.specs.Outcome.{Outcome, leaves}
use Rattle.ingress.proofs.Told.{ingress_told}
use Rattle.egress.proofs.Told.{egress_told}
use Rattle.place.specs.Place.{before, ingress_place, egress_place, changes, crosses, info}
use Rattle.moves.specs.Moves.{stepped, steps_at_ingress, ingress_fields, ingress_move, egress_ahead, egress_move}
use Rattle.ingress.specs.Ingress.{ingress}
use Rattle.egress.specs.Egress.{egress}
use Rattle.routing.specs.Step.{leaving_questions, leave, step_from, step}
use Rattle.interface_table.specs.Table.{state_of}
use Rattle.moves.proofs.Touched.{stepped_info}

pub record Holds (path after : List ℕ) : Type 0 where
  pub kept : Kept path after
  pub past : drop (header_size path) after ≡ drop (header_size path) path
  pub flags : (i : ℕ) → i < infos path → peering (info_field after i) ≡ peering (info_field path i)

pub holds_self : (path : List ℕ) → Holds path path
holds_self path = record { kept = kept_self path; past = refl; flags = λ i l. refl }

pub holds_trans : {path mid after : List ℕ} → Holds path mid → Holds mid after → Holds path after
holds_trans {path} {mid} {after} p q = record {
  kept = kept_trans p.kept q.kept;
  past = subst (λ n. drop n after ≡ drop n mid) (header_size_kept p.kept) q.past ∙ p.past;
  flags = λ i l. q.flags i (rw (infos_kept p.kept) l) ∙ p.flags i l;
}

hf_holds : (path : List ℕ) (n : ℕ) → Holds path (set_curr_hf path n)
hf_holds path n = record { kept = set_hf_kept path n; past = set_hf_past path n; flags = λ i l. ap peering (set_hf_info path n i) }

inf_holds : (path : List ℕ) (n : ℕ) → Holds path (set_curr_inf path n)
inf_holds path n = record { kept = set_inf_kept path n; past = set_inf_past path n; flags = λ i l. ap peering (set_inf_info path n i) }

-- 2, 3 and 4 are answered alike
pub asked_alike : {path after : List ℕ} → Holds path after
    → first_no (within HeaderFailed (header_questions after)) ≡ first_no (within HeaderFailed (header_questions path))
asked_alike k = rw (k.kept.size, header_size_kept k.kept, hops_kept k.kept)

-- ---- the moves, where CurrINF and CurrHF are in the header

module _ (edition : Edition) (path : List ℕ) (inside : curr_inf path < infos path) (among : curr_hf path < hops path) where
  stepped_holds : (taken : Bool) → Holds path (stepped path taken)
  unfolding stepped
  stepped_holds true = record {
    kept = seg_id_kept path (curr_inf path) _;
    past = seg_id_past path (curr_inf path) _ inside;
    flags = λ i l. (stepped_info path inside true i).peer;
  }
  stepped_holds false = holds_self path

  cleared_holds : (taken c : Bool) → Holds path (clear_ingress_alert (stepped path taken) c (curr_hf path))
  cleared_holds taken c =
      let s = stepped_holds taken in
      let h : curr_hf path < hops (stepped path taken) = rw (hops_kept s.kept) among in
      holds_trans s (record { kept = alert_kept _ c _; past = alert_past _ c _ h; flags = λ i l. ap peering (alert_info _ c _ i l) })

  fields_hold : (interface : ℕ) → Holds path (ingress_fields edition path interface)
  fields_hold interface = go (eqb interface 0)
    where
      go : (local : Bool) → Holds path
          (cond local path (clear_ingress_alert (stepped path (steps_at_ingress edition path interface)) (cons_dir (info path)) (curr_hf path)))
      go true = holds_self path
      go false = cleared_holds _ _

  pub ingress_move_holds : (interface : ℕ) (change : Bool) → Holds path (ingress_move edition path interface change)
  unfolding ingress_move
  ingress_move_holds interface true =
      holds_trans (fields_hold interface)
      (holds_trans
      (hf_holds _ _)
      (inf_holds _ _))
  ingress_move_holds interface false = fields_hold interface

  pub egress_move_holds : Holds path (egress_move edition path)
  unfolding egress_move
  egress_move_holds = go (crosses edition path)
    where
      ahead : Holds path (egress_ahead edition path)
      ahead = holds_trans (cleared_holds _ _) (hf_holds _ _)

      go : (cross : Bool)
          → Holds path (cond cross (set_curr_inf (egress_ahead edition path) (curr_inf path + 1)) (egress_ahead edition path))
      go true = holds_trans ahead (inf_holds _ _)
      go false = ahead

-- ---- the halves, and the whole

-- two lists of questions, where a no leaves the bytes
asked_holds : {A : Type 0} (refuse : StandardRoutingError → A) (first place : Result Unit StandardRoutingError) (path : List ℕ) (moved : Outcome A)
    → (place ≡ Ok tt → Holds path moved.bytes)
    → Holds path (told (leaves refuse path) first (told (leaves refuse path) place moved)).bytes
asked_holds refuse (Err why) place path moved h = holds_self path
asked_holds refuse (Ok _) (Err why) path moved h = holds_self path
asked_holds refuse (Ok _) (Ok _) path moved h = h refl

module _ (edition : Edition) (ids states : List ℕ) (mac : MacFunction) where
  pub ingress_holds : (at : StandardValidator) (path : List ℕ) → Holds path (ingress edition ids states mac at path).bytes
  ingress_holds at path =
      rw (ingress_told edition ids states mac at path)
      (asked_holds Err (first_no (before ids states path)) (first_no (ingress_place edition path)) path _
      (λ e.
      ingress_move_holds edition path
      (ltb-true _ _ (first_yes _ _ _ (rest_yes _ _ _ (rest_yes _ _ _ (rest_yes _ _ _ e)))))
      (ltb-true _ _ (first_yes _ _ _ e))
      at.current_interface_id
      (changes edition path)))

  pub egress_holds : (at : StandardValidator) (path : List ℕ) → Holds path (egress edition ids states mac at path).bytes
  egress_holds at path =
      rw (egress_told edition ids states mac at path)
      (asked_holds Err (first_no (before ids states path)) (first_no (egress_place edition path)) path _
      (λ e.
      egress_move_holds edition path (ltb-true _ _ (first_yes _ _ _ (rest_yes _ _ _ (rest_yes _ _ _ e)))) (ltb-true _ _ (first_yes _ _ _ e))))

  leave_holds : (at : StandardValidator) (path : List ℕ) → Holds path (leave edition ids states mac at path).bytes
  leave_holds at path =
      let asked = leaving_questions (state_of ids states at.current_interface_id) at.current_interface_id path in
      rw (asks_told (leaves Err path) asked (egress edition ids states mac at path)) (go (first_no asked))
    where
      go : (first : Result Unit StandardRoutingError) → Holds path (told (leaves Err path) first (egress edition ids states mac at path)).bytes
      go (Err why) = holds_self path
      go (Ok _) = egress_holds at path

  pub step_holds : (interface time : ℕ) (unchecked : Bool) (path : List ℕ)
      → Holds path (step edition ids states mac interface time unchecked path).bytes
  unfolding step step_from
  step_holds interface time unchecked path =
      let at = at_ingress interface time unchecked in
      go (ingress edition ids states mac at path).answer _ (ingress_holds at path)
    where
      go : (answer : IngressAnswer) (bytes : List ℕ) → Holds path bytes
          → Holds path (step_from edition answer ids states mac time unchecked bytes).bytes
      go (Ok (ContinueEgress out)) bytes h = holds_trans h (leave_holds (at_egress out time unchecked) bytes)
      go (Ok (Complete action)) bytes h = h
      go (Err why) bytes h = h
