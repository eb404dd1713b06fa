-- 01, 'standard/routing.rs': how each half of the step moves the path.
-- Assumes nothing.
use Rattle.std.specs.Prelude.{ℕ, ◌+◌, Bool, true, false, not, ◌&&◌, cond, List, eqb}
use Rattle.hop_mac.specs.Mac.{mac_beta_step}
use Rattle.fields.specs.Fields.{cons_dir, seg_id, mac_field}
use Rattle.standard_path.specs.Meta.{curr_inf, curr_hf, set_curr_inf, set_curr_hf}
use Rattle.edition.specs.declared.Edition.{Edition}
use Rattle.place.specs.Place.{hop, info, is_peering_hop, crosses}
use Rattle.writes.specs.Writes.{set_seg_id, clear_ingress_alert, clear_egress_alert}

-- the SegID after a beta step of the current hop
abbrev pub stepped_seg_id : List ℕ → ℕ
stepped_seg_id path = mac_beta_step (seg_id (info path)) (mac_field (hop path))

-- the bytes after it, if one is taken
unfoldable pub stepped : List ℕ → Bool → List ℕ
stepped path taken = cond taken (set_seg_id path (curr_inf path) (stepped_seg_id path)) path

-- the current hop takes a beta step at ingress against construction, at egress in construction direction; a peering hop takes none
abbrev pub takes_step : Edition → List ℕ → (at_ingress c : Bool) → Bool
takes_step edition path at_ingress c = not (is_peering_hop edition path) && cond at_ingress (not c) c

-- ---- ingress

-- a packet from outside takes it
abbrev pub steps_at_ingress : Edition → List ℕ → ℕ → Bool
steps_at_ingress edition path interface = not (eqb interface 0) && takes_step edition path true (cons_dir (info path))

abbrev pub ingress_seg_id : Edition → List ℕ → ℕ → ℕ
ingress_seg_id edition path interface = cond (steps_at_ingress edition path interface) (stepped_seg_id path) (seg_id (info path))

-- the beta step, the travel-ingress alert cleared; both indices up at a segment change
abbrev pub ingress_fields : Edition → List ℕ → ℕ → List ℕ
ingress_fields edition path interface =
    cond (eqb interface 0) path
    (clear_ingress_alert (stepped path (steps_at_ingress edition path interface)) (cons_dir (info path)) (curr_hf path))

unfoldable pub ingress_move : Edition → List ℕ → ℕ → Bool → List ℕ
ingress_move edition path interface change =
    cond change
    (set_curr_inf (set_curr_hf (ingress_fields edition path interface) (curr_hf path + 1)) (curr_inf path + 1))
    (ingress_fields edition path interface)

-- ---- egress

abbrev pub steps_at_egress : Edition → List ℕ → Bool
steps_at_egress edition path = takes_step edition path false (cons_dir (info path))

-- the beta step, the travel-egress alert cleared, CurrHF plus one; at the first peering hop CurrINF too
abbrev pub egress_ahead : Edition → List ℕ → List ℕ
egress_ahead edition path =
    set_curr_hf
    (clear_egress_alert (stepped path (steps_at_egress edition path)) (cons_dir (info path)) (curr_hf path))
    (curr_hf path + 1)

unfoldable pub egress_move : Edition → List ℕ → List ℕ
egress_move edition path =
    cond (crosses edition path) (set_curr_inf (egress_ahead edition path) (curr_inf path + 1)) (egress_ahead edition path)
