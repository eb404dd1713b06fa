-- An alert cleared: what it keeps of a path, and what is read after it; the travel-egress alert is the travel-ingress alert with `not c` for c.
-- Assumes nothing.
use mathlib.Core.Path.{◌≡◌, refl, ap, sym, ◌∙◌}
use mathlib.Core.Bool.{Bool, true, false, not}
use mathlib.Core.List.{List}
use mathlib.Core.Logic.{inl, inr, ⊎_elim}
use Prim.Native.Nat.{ℕ, ◌+◌, ◌/◌, ◌%◌, ◌≤◌, ◌<◌}
use native.Mathlib.Omega.{arith}
use lib.ListN.{length, get_or, drop, get_or-eq_default}
use lib.Seq.{get_or-set_other}
use Rattle.standard_path.specs.Meta.{curr_inf, curr_hf}
use Rattle.fields.specs.Fields.{exp_time, cons_ingress, cons_egress, mac_field, cons_ingress_alert, cons_egress_alert, travel_ingress_alert, travel_egress_alert, by_direction}
use Rattle.standard_path.specs.Header.{infos, hops, header_size, info_field, hop_field}
use Rattle.writes.specs.Writes.{without_egress, without_ingress, flags_at, clear_ingress_alert, clear_egress_alert}
use Rattle.standard_path.proofs.Kept.{Kept, infos_kept, set_kept, set_info, set_hop, set_past, set_byte, hop_byte, other_side}

module _ (path : List ℕ) (c : Bool) (h : ℕ) where
  pub alert_kept : Kept path (clear_ingress_alert path c h)
  unfolding clear_ingress_alert
  alert_kept = set_kept path (flags_at path h) _ (inr (omega arith))

  pub alert_byte : (j : ℕ) → (j ≡ flags_at path h → ⊥) → get_or (clear_ingress_alert path c h) j 0 ≡ get_or path j 0
  unfolding clear_ingress_alert
  alert_byte j = get_or-set_other path (flags_at path h) j _ 0

  pub alert_past : h < hops path → drop (header_size path) (clear_ingress_alert path c h) ≡ drop (header_size path) path
  unfolding clear_ingress_alert header_size
  alert_past b = set_past path (flags_at path h) _ (omega arith)

  pub alert_curr_inf : curr_inf (clear_ingress_alert path c h) ≡ curr_inf path
  alert_curr_inf = rw (alert_byte 0 (λ e. omega arith))

  pub alert_curr_hf : curr_hf (clear_ingress_alert path c h) ≡ curr_hf path
  alert_curr_hf = rw (alert_byte 0 (λ e. omega arith))

  pub alert_info : (j : ℕ) → j < infos path → info_field (clear_ingress_alert path c h) j ≡ info_field path j
  unfolding clear_ingress_alert
  alert_info j b = set_info path (flags_at path h) _ j (inr (omega arith))

  pub alert_hop_other : (j : ℕ) → (j ≡ h → ⊥) → hop_field (clear_ingress_alert path c h) j ≡ hop_field path j
  unfolding clear_ingress_alert
  alert_hop_other j b =
      set_hop path (flags_at path h) _ alert_kept j
      (⊎_elim (λ (l : h < j). inl (omega arith)) (λ (l : j < h). inr (omega arith)) (other_side b))

  -- of the hop itself, all but its flags
  alert_hop_byte : (k : ℕ) → 0 < k → k < 12 → get_or (hop_field (clear_ingress_alert path c h) h) k 0 ≡ get_or (hop_field path h) k 0
  alert_hop_byte k a b =
      hop_byte (clear_ingress_alert path c h) h k b ∙ rw (infos_kept alert_kept) (alert_byte (flags_at path h + k) (λ e. omega arith))
      ∙ sym (hop_byte path h k b)

  pub alert_exp_time : exp_time (hop_field (clear_ingress_alert path c h) h) ≡ exp_time (hop_field path h)
  unfolding exp_time
  alert_exp_time = alert_hop_byte 1 (omega arith) (omega arith)

  pub alert_cons_ingress : cons_ingress (hop_field (clear_ingress_alert path c h) h) ≡ cons_ingress (hop_field path h)
  unfolding cons_ingress
  alert_cons_ingress = rw (alert_hop_byte 2 (omega arith) (omega arith), alert_hop_byte 3 (omega arith) (omega arith))

  pub alert_cons_egress : cons_egress (hop_field (clear_ingress_alert path c h) h) ≡ cons_egress (hop_field path h)
  unfolding cons_egress
  alert_cons_egress = rw (alert_hop_byte 4 (omega arith) (omega arith), alert_hop_byte 5 (omega arith) (omega arith))

  pub alert_mac : mac_field (hop_field (clear_ingress_alert path c h) h) ≡ mac_field (hop_field path h)
  unfolding mac_field
  alert_mac =
      let byte : (k : ℕ) → k < 6 → get_or (hop_field (clear_ingress_alert path c h) h) (6 + k) 0 ≡ get_or (hop_field path h) (6 + k) 0 =
      λ k b. alert_hop_byte (6 + k) (omega arith) (omega arith) in
      rw (byte 0 (omega arith), byte 1 (omega arith), byte 2 (omega arith))
      (rw (byte 3 (omega arith), byte 4 (omega arith), byte 5 (omega arith)))

  -- its flags
  abbrev cleared : ℕ → ℕ
  cleared flags = by_direction c (without_ingress flags) (without_egress flags)

  alert_flags : cleared 0 ≡ 0 → get_or (hop_field (clear_ingress_alert path c h) h) 0 0 ≡ cleared (get_or (hop_field path h) 0 0)
  unfolding clear_ingress_alert
  alert_flags z =
      let at = flags_at path h in
      let e : at + 0 ≡ at = omega arith in
      let out : length path ≤ at → cleared (get_or path at 0) ≡ 0 = λ l. ap cleared (get_or-eq_default path 0 l) ∙ z in
      let here : get_or (hop_field path h) 0 0 ≡ get_or path at 0 = hop_byte path h 0 (omega arith) ∙ rw e in
      hop_byte (clear_ingress_alert path c h) h 0 (omega arith)
      ∙ rw (infos_kept alert_kept, e, here) (set_byte path at (cleared (get_or path at 0)) out)

module _ (path : List ℕ) (h : ℕ) where
  pub ingress_alert_cleared : (c : Bool) → travel_ingress_alert c (hop_field (clear_ingress_alert path c h) h) ≡ false
  unfolding travel_ingress_alert cons_ingress_alert cons_egress_alert
  ingress_alert_cleared true =
      let x = get_or (hop_field path h) 0 0 in
      let e : without_ingress x / 2 % 2 ≡ 0 = omega arith in
      rw (alert_flags path true h refl, e)
  ingress_alert_cleared false =
      let x = get_or (hop_field path h) 0 0 in
      let e : without_egress x % 2 ≡ 0 = omega arith in
      rw (alert_flags path false h refl, e)

  pub egress_alert_left : (c : Bool)
      → travel_egress_alert c (hop_field (clear_ingress_alert path c h) h) ≡ travel_egress_alert c (hop_field path h)
  unfolding travel_egress_alert cons_ingress_alert cons_egress_alert
  egress_alert_left true =
      let x = get_or (hop_field path h) 0 0 in
      let e : without_ingress x % 2 ≡ x % 2 = omega arith in
      rw (alert_flags path true h refl, e)
  egress_alert_left false =
      let x = get_or (hop_field path h) 0 0 in
      let e : without_egress x / 2 % 2 ≡ x / 2 % 2 = omega arith in
      rw (alert_flags path false h refl, e)

-- the travel-egress alert is the travel-ingress alert the other way round
turned : (c : Bool) (hop : List ℕ) → travel_egress_alert c hop ≡ travel_ingress_alert (not c) hop
unfolding travel_egress_alert travel_ingress_alert
turned true hop = refl
turned false hop = refl

turned_back : (c : Bool) (hop : List ℕ) → travel_ingress_alert c hop ≡ travel_egress_alert (not c) hop
unfolding travel_egress_alert travel_ingress_alert
turned_back true hop = refl
turned_back false hop = refl

module _ (path : List ℕ) (h : ℕ) (c : Bool) where
  pub egress_alert_cleared : travel_egress_alert c (hop_field (clear_egress_alert path c h) h) ≡ false
  egress_alert_cleared = turned c _ ∙ ingress_alert_cleared path h (not c)

  pub ingress_alert_left : travel_ingress_alert c (hop_field (clear_egress_alert path c h) h) ≡ travel_ingress_alert c (hop_field path h)
  ingress_alert_left = turned_back c _ ∙ egress_alert_left path h (not c) ∙ sym (turned_back c _)
