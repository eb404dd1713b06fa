-- A hop without an alert bit: no alert in travel direction, and nothing to clear.
-- Assumes nothing.
use mathlib.Core.Path.{◌≡◌, refl, ap, ◌∙◌}
use mathlib.Core.Bool.{Bool, true, false, not, ◌&&◌, cond}
use mathlib.Core.List.{List}
use Prim.Native.Nat.{ℕ, ◌+◌, ◌/◌, ◌%◌, ◌<◌}
use native.Mathlib.Omega.{arith}
use borrow.Author.Tests.{eqb-false}
use lib.Dec.{eqb}
use lib.ListN.{get_or, set}
use lib.Seq.{set-get_or}
use Rattle.standard_path.specs.Meta.{curr_inf, curr_hf, set_curr_hf, set_curr_inf}
use Rattle.fields.specs.Fields.{cons_dir, cons_ingress_alert, cons_egress_alert, travel_ingress_alert, travel_egress_alert}
use Rattle.standard_path.specs.Header.{infos, hop_field}
use Rattle.writes.specs.Writes.{flags_at, without_ingress, without_egress, clear_ingress_alert}
use Rattle.standard_path.proofs.Kept.{hop_byte}
use Rattle.edition.specs.declared.Edition.{Edition}
use Rattle.place.specs.Place.{is_peering_hop, crosses, hop, info}
use Rattle.moves.specs.Moves.{stepped, steps_at_ingress, ingress_fields, steps_at_egress, egress_move}
use Rattle.moves.proofs.Touched.{stepped_hop}

pub record Quiet (hop : List ℕ) : Type 0 where
  pub into : cons_ingress_alert hop ≡ false
  pub out : cons_egress_alert hop ≡ false

module _ {hop : List ℕ} (q : Quiet hop) where
  pub quiet_ingress : (c : Bool) → travel_ingress_alert c hop ≡ false
  unfolding travel_ingress_alert
  quiet_ingress true = q.into
  quiet_ingress false = q.out

  pub quiet_egress : (c : Bool) → travel_egress_alert c hop ≡ false
  unfolding travel_egress_alert
  quiet_egress true = q.out
  quiet_egress false = q.into

  -- its flags have neither bit
  no_egress_bit : get_or hop 0 0 % 2 ≡ 0
  unfolding cons_egress_alert
  no_egress_bit = omega (arith, eqb-false (get_or hop 0 0 % 2) 1 q.out)

  no_ingress_bit : get_or hop 0 0 / 2 % 2 ≡ 0
  unfolding cons_ingress_alert
  no_ingress_bit = omega (arith, eqb-false (get_or hop 0 0 / 2 % 2) 1 q.into)

pub quiet_clear : (path : List ℕ) (c : Bool) (h : ℕ) → Quiet (hop_field path h) → clear_ingress_alert path c h ≡ path
unfolding clear_ingress_alert
quiet_clear path c h q =
    let flags = get_or path (flags_at path h) 0 in
    let e : flags_at path h + 0 ≡ flags_at path h = omega arith in
    let here : get_or (hop_field path h) 0 0 ≡ flags = hop_byte path h 0 (omega arith) ∙ rw e in
    let low : flags % 2 ≡ 0 = rw here at (no_egress_bit q) in
    let high : flags / 2 % 2 ≡ 0 = rw here at (no_ingress_bit q) in
    go c flags refl low high
  where
    go : (c : Bool) (flags : ℕ) → flags ≡ get_or path (flags_at path h) 0 → flags % 2 ≡ 0 → flags / 2 % 2 ≡ 0
        → set path (flags_at path h) (cond c (without_ingress flags) (without_egress flags)) ≡ path
    go true flags e low high =
        let z : without_ingress flags ≡ get_or path (flags_at path h) 0 = omega arith in
        rw z (set-get_or path (flags_at path h) 0)
    go false flags e low high =
        let z : without_egress flags ≡ get_or path (flags_at path h) 0 = omega arith in
        rw z (set-get_or path (flags_at path h) 0)

module _ (edition : Edition) (path : List ℕ) (inside : curr_inf path < infos path) (q : Quiet (hop path)) where
  cleared_stepped : (taken c : Bool) → clear_ingress_alert (stepped path taken) c (curr_hf path) ≡ stepped path taken
  cleared_stepped taken c = quiet_clear (stepped path taken) c (curr_hf path) (rw (stepped_hop path inside taken (curr_hf path)) q)

  pub quiet_fields : (interface : ℕ) → ingress_fields edition path interface ≡ stepped path (steps_at_ingress edition path interface)
  unfolding stepped
  quiet_fields interface = go (eqb interface 0)
    where
      go : (local : Bool)
          → let taken = not local && (not (is_peering_hop edition path) && not (cons_dir (info path))) in
          cond local path (clear_ingress_alert (stepped path taken) (cons_dir (info path)) (curr_hf path)) ≡ stepped path taken
      go true = refl
      go false = cleared_stepped (not (is_peering_hop edition path) && not (cons_dir (info path))) (cons_dir (info path))

  abbrev pub ahead : List ℕ
  ahead = set_curr_hf (stepped path (steps_at_egress edition path)) (curr_hf path + 1)

  pub quiet_egress_move : egress_move edition path ≡ cond (crosses edition path) (set_curr_inf ahead (curr_inf path + 1)) ahead
  unfolding egress_move
  quiet_egress_move =
      ap (λ (z : List ℕ). let on = set_curr_hf z (curr_hf path + 1) in cond (crosses edition path) (set_curr_inf on (curr_inf path + 1)) on)
      (cleared_stepped _ _)
