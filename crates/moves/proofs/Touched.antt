-- What a half of the step writes into the fields: a SegID after a beta step, if one is taken, and one alert bit of the current hop.
-- Everything else that the checks read stays.
-- Assumes nothing.
use mathlib.Core.Path.{◌≡◌, refl, ap, ◌∙◌}
use mathlib.Core.Bool.{Bool, true, false, not, ◌&&◌, cond}
use mathlib.Core.List.{List}
use Prim.Native.Nat.{ℕ, ◌+◌, ◌≤◌, ◌<◌}
use lib.Dec.{eqb}
use lib.ListN.{length}
use Rattle.fields.specs.Layout.{info_offset}
use Rattle.standard_path.specs.Meta.{curr_inf, curr_hf}
use Rattle.fields.specs.Fields.{cons_dir, peering, seg_id, timestamp, exp_time, cons_ingress, cons_egress, mac_field}
use Rattle.standard_path.specs.Header.{infos, info_field, hop_field}
use Rattle.writes.specs.Writes.{flags_at, alert_cleared_at, clear_ingress_alert}
use Rattle.standard_path.proofs.Kept.{Kept, kept_self, kept_trans, infos_kept}
use Rattle.writes.proofs.SegIdSet.{seg_id_kept, seg_id_curr_inf, seg_id_curr_hf, seg_id_hop, seg_id_cons_dir, seg_id_peering, seg_id_timestamp, seg_id_info_other, seg_id_after}
use Rattle.writes.proofs.AlertCleared.{alert_kept, alert_curr_inf, alert_curr_hf, alert_info, alert_hop_other, alert_exp_time, alert_cons_ingress, alert_cons_egress, alert_mac}
use Rattle.edition.specs.declared.Edition.{Edition}
use Rattle.place.specs.Place.{is_peering_hop, hop, info}
use Rattle.moves.specs.Moves.{stepped, stepped_seg_id, ingress_seg_id, ingress_fields}

-- two hop fields that differ in their flags at most
pub record SameHop (first second : List ℕ) : Type 0 where
  pub units : exp_time second ≡ exp_time first
  pub into : cons_ingress second ≡ cons_ingress first
  pub out : cons_egress second ≡ cons_egress first
  pub mac : mac_field second ≡ mac_field first

pub same_hop : {first second : List ℕ} → second ≡ first → SameHop first second
same_hop e = record { units = ap exp_time e; into = ap cons_ingress e; out = ap cons_egress e; mac = ap mac_field e }

-- two info fields that differ in SegID and reserved bits at most
pub record SameInfo (first second : List ℕ) : Type 0 where
  pub dir : cons_dir second ≡ cons_dir first
  pub start : timestamp second ≡ timestamp first
  pub peer : peering second ≡ peering first

pub same_info : {first second : List ℕ} → second ≡ first → SameInfo first second
same_info e = record { dir = ap cons_dir e; start = ap timestamp e; peer = ap peering e }

-- the beta step, if taken, and the travel-ingress alert of the current hop cleared; for the other, `not c` for c
abbrev pub touched : List ℕ → Bool → Bool → List ℕ
touched path taken c = clear_ingress_alert (stepped path taken) c (curr_hf path)

-- where the flags of a hop stand is not moved by the beta step
stepped_flags : (path : List ℕ) (taken : Bool) (h : ℕ) → flags_at (stepped path taken) h ≡ flags_at path h
unfolding stepped
stepped_flags path true h = rw (infos_kept (seg_id_kept path (curr_inf path) (stepped_seg_id path)))
stepped_flags path false h = refl

-- so the code, which looks for them before it, writes where the definition does
pub cleared_there : (path : List ℕ) (taken c : Bool) {at : ℕ} → at ≡ flags_at path (curr_hf path)
    → alert_cleared_at (stepped path taken) at c ≡ touched path taken c
unfolding clear_ingress_alert
cleared_there path taken c e = rw (e, stepped_flags path taken (curr_hf path))

-- the SegID of the current info field after it
abbrev pub touched_seg_id : List ℕ → Bool → ℕ
touched_seg_id path taken = cond taken (stepped_seg_id path) (seg_id (info path))

-- fields that a half has moved, with the SegID that it left in the current info field
pub record FieldsMoved (path after : List ℕ) (value : ℕ) : Type 0 where
  pub kept : Kept path after
  pub inf : curr_inf after ≡ curr_inf path
  pub hf : curr_hf after ≡ curr_hf path
  pub hop_here : SameHop (hop path) (hop_field after (curr_hf path))
  pub hop_other : (j : ℕ) → (j ≡ curr_hf path → ⊥) → hop_field after j ≡ hop_field path j
  pub info_here : SameInfo (info path) (info_field after (curr_inf path))
  pub info_other : (j : ℕ) → j < infos path → (j ≡ curr_inf path → ⊥) → info_field after j ≡ info_field path j
  pub seg : seg_id (info_field after (curr_inf path)) ≡ value

unmoved : (path : List ℕ) → FieldsMoved path path (seg_id (info path))
unmoved path = record {
  kept = kept_self path;
  inf = refl;
  hf = refl;
  hop_here = same_hop refl;
  hop_other = λ j other. refl;
  info_here = same_info refl;
  info_other = λ j among other. refl;
  seg = refl;
}

module _ (path : List ℕ) (inside : curr_inf path < infos path) where
  pub stepped_kept : (taken : Bool) → Kept path (stepped path taken)
  unfolding stepped
  stepped_kept true = seg_id_kept path (curr_inf path) _
  stepped_kept false = kept_self path

  pub stepped_inf : (taken : Bool) → curr_inf (stepped path taken) ≡ curr_inf path
  unfolding stepped
  stepped_inf true = seg_id_curr_inf path (curr_inf path) _
  stepped_inf false = refl

  pub stepped_hf : (taken : Bool) → curr_hf (stepped path taken) ≡ curr_hf path
  unfolding stepped
  stepped_hf true = seg_id_curr_hf path (curr_inf path) _
  stepped_hf false = refl

  pub stepped_hop : (taken : Bool) (j : ℕ) → hop_field (stepped path taken) j ≡ hop_field path j
  unfolding stepped
  stepped_hop true j = seg_id_hop path (curr_inf path) _ inside j
  stepped_hop false j = refl

  pub stepped_info : (taken : Bool) (j : ℕ) → SameInfo (info_field path j) (info_field (stepped path taken) j)
  unfolding stepped
  stepped_info true j = record {
    dir = seg_id_cons_dir path (curr_inf path) _ j;
    start = seg_id_timestamp path (curr_inf path) _ j;
    peer = seg_id_peering path (curr_inf path) _ j;
  }
  stepped_info false j = same_info refl

  pub stepped_info_other : (taken : Bool) (j : ℕ) → (j ≡ curr_inf path → ⊥) → info_field (stepped path taken) j ≡ info_field path j
  unfolding stepped
  stepped_info_other true j h = seg_id_info_other path (curr_inf path) _ j h
  stepped_info_other false j h = refl

  pub stepped_seg_id_lem : (taken : Bool) → info_offset (curr_inf path) + 8 ≤ length path
      → seg_id (info_field (stepped path taken) (curr_inf path)) ≡ touched_seg_id path taken
  unfolding stepped
  stepped_seg_id_lem true h = seg_id_after path (curr_inf path) _ h
  stepped_seg_id_lem false h = refl

  -- an info field is that of the path after the beta step
  touched_infos : (taken c : Bool) (j : ℕ) → j < infos path → info_field (touched path taken c) j ≡ info_field (stepped path taken) j
  touched_infos taken c j h = alert_info _ c _ j (rw (infos_kept (stepped_kept taken)) h)

  pub touched_moves : (taken c : Bool) → info_offset (curr_inf path) + 8 ≤ length path
      → FieldsMoved path (touched path taken c) (touched_seg_id path taken)
  touched_moves taken c room =
      let s = stepped path taken in
      let h = curr_hf path in
      let hop-kept = stepped_hop taken h in
      let same = stepped_info taken (curr_inf path) in
      let info-kept = touched_infos taken c (curr_inf path) inside in
      record {
        kept = kept_trans (stepped_kept taken) (alert_kept s c h);
        inf = alert_curr_inf s c h ∙ stepped_inf taken;
        hf = alert_curr_hf s c h ∙ stepped_hf taken;
        hop_here = record {
          units = alert_exp_time s c h ∙ ap exp_time hop-kept;
          into = alert_cons_ingress s c h ∙ ap cons_ingress hop-kept;
          out = alert_cons_egress s c h ∙ ap cons_egress hop-kept;
          mac = alert_mac s c h ∙ ap mac_field hop-kept;
        };
        hop_other = λ j other. alert_hop_other s c h j other ∙ stepped_hop taken j;
        info_here =
            record {
              dir = ap cons_dir info-kept ∙ same.dir;
              start = ap timestamp info-kept ∙ same.start;
              peer = ap peering info-kept ∙ same.peer;
            };
        info_other = λ j among other. touched_infos taken c j among ∙ stepped_info_other taken j other;
        seg = ap seg_id info-kept ∙ stepped_seg_id_lem taken room;
      }

  pub ingress_fields_moved : (edition : Edition) (interface : ℕ) → info_offset (curr_inf path) + 8 ≤ length path
      → FieldsMoved path (ingress_fields edition path interface) (ingress_seg_id edition path interface)
  ingress_fields_moved edition interface room = go (eqb interface 0)
    where
      go : (local : Bool)
          → let taken = not local && (not (is_peering_hop edition path) && not (cons_dir (info path))) in
          FieldsMoved path (cond local path (touched path taken (cons_dir (info path)))) (touched_seg_id path taken)
      go true = unmoved path
      go false = touched_moves _ _ room
