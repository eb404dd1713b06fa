-- A SegID set: what it keeps of a path, and what is read after it.
-- Assumes nothing.
use mathlib.Core.Path.{◌≡◌, sym, ◌∙◌}
use mathlib.Core.List.{List}
use mathlib.Core.Logic.{◌⊎◌, inl, inr, ⊎_elim}
use Prim.Native.Nat.{ℕ, ◌+◌, ◌/◌, ◌%◌, ◌≤◌, ◌<◌}
use native.Mathlib.Omega.{arith}
use lib.ListN.{length, get_or, drop, set, length-set}
use lib.Seq.{get_or-set_same, get_or-set_other, drop-set-lt}
use Rattle.fields.specs.Layout.{info_offset, hop_offset}
use Rattle.standard_path.specs.Meta.{curr_inf, curr_hf}
use Rattle.fields.specs.Fields.{cons_dir, peering, seg_id, timestamp}
use Rattle.standard_path.specs.Header.{infos, header_size, info_field, hop_field}
use Rattle.writes.specs.Writes.{set_seg_id}
use Rattle.standard_path.proofs.Kept.{Kept, kept_trans, infos_kept, set_kept, part_kept, set_info, set_past, info_byte, other_side}

module _ (path : List ℕ) (i value : ℕ) where
  -- the first byte of the two set
  abbrev half : List ℕ
  half = set path (info_offset i + 2) (value / 256)

  pub seg_id_kept : Kept path (set_seg_id path i value)
  unfolding set_seg_id
  seg_id_kept =
      kept_trans (set_kept path (info_offset i + 2) (value / 256) (inr (omega arith)))
      (set_kept half (info_offset i + 3) (value % 256) (inr (omega arith)))

  pub seg_id_byte : (j : ℕ) → (j ≡ info_offset i + 2 → ⊥) → (j ≡ info_offset i + 3 → ⊥)
      → get_or (set_seg_id path i value) j 0 ≡ get_or path j 0
  unfolding set_seg_id
  seg_id_byte j h k =
      get_or-set_other half (info_offset i + 3) j (value % 256) 0 k ∙ get_or-set_other path (info_offset i + 2) j (value / 256) 0 h

  pub seg_id_past : i < infos path → drop (header_size path) (set_seg_id path i value) ≡ drop (header_size path) path
  unfolding set_seg_id header_size
  seg_id_past h =
      drop-set-lt (header_size path) half (info_offset i + 3) (value % 256) (omega arith)
      ∙ set_past path (info_offset i + 2) (value / 256) (omega arith)

  pub seg_id_curr_inf : curr_inf (set_seg_id path i value) ≡ curr_inf path
  seg_id_curr_inf = rw (seg_id_byte 0 (λ e. omega arith) (λ e. omega arith))

  pub seg_id_curr_hf : curr_hf (set_seg_id path i value) ≡ curr_hf path
  seg_id_curr_hf = rw (seg_id_byte 0 (λ e. omega arith) (λ e. omega arith))

  pub seg_id_hop : i < infos path → (j : ℕ) → hop_field (set_seg_id path i value) j ≡ hop_field path j
  unfolding hop_field set_seg_id
  seg_id_hop h j =
      rw (infos_kept seg_id_kept)
      (part_kept half (info_offset i + 3) (value % 256) (hop_offset (infos path) j) 12 (inl (omega arith))
      ∙ part_kept path (info_offset i + 2) (value / 256) (hop_offset (infos path) j) 12 (inl (omega arith)))

  -- of an info field, its own too
  seg_id_info_byte : (j k : ℕ) → k < 8 → (k ≡ 2 → ⊥) → (k ≡ 3 → ⊥)
      → get_or (info_field (set_seg_id path i value) j) k 0 ≡ get_or (info_field path j) k 0
  seg_id_info_byte j k h a b =
      info_byte (set_seg_id path i value) j k h ∙ seg_id_byte (info_offset j + k) (λ e. a (omega arith)) (λ e. b (omega arith))
      ∙ sym (info_byte path j k h)

  pub seg_id_cons_dir : (j : ℕ) → cons_dir (info_field (set_seg_id path i value) j) ≡ cons_dir (info_field path j)
  unfolding cons_dir
  seg_id_cons_dir j = rw (seg_id_info_byte j 0 (omega arith) (λ e. omega arith) (λ e. omega arith))

  pub seg_id_peering : (j : ℕ) → peering (info_field (set_seg_id path i value) j) ≡ peering (info_field path j)
  unfolding peering
  seg_id_peering j = rw (seg_id_info_byte j 0 (omega arith) (λ e. omega arith) (λ e. omega arith))

  pub seg_id_timestamp : (j : ℕ) → timestamp (info_field (set_seg_id path i value) j) ≡ timestamp (info_field path j)
  unfolding timestamp
  seg_id_timestamp j =
      let byte : (k : ℕ) → 3 < k → k < 8 → get_or (info_field (set_seg_id path i value) j) k 0 ≡ get_or (info_field path j) k 0 =
      λ k a b. seg_id_info_byte j k b (λ e. omega arith) (λ e. omega arith) in
      let four = byte 4 (omega arith) (omega arith) in
      let five = byte 5 (omega arith) (omega arith) in
      let six = byte 6 (omega arith) (omega arith) in
      rw (four, five, six, byte 7 (omega arith) (omega arith))

  pub seg_id_info_other : (j : ℕ) → (j ≡ i → ⊥) → info_field (set_seg_id path i value) j ≡ info_field path j
  unfolding set_seg_id
  seg_id_info_other j h =
      let apart : (k : ℕ) → k < 8 → (info_offset i + k < info_offset j) ⊎ (info_offset j + 8 ≤ info_offset i + k) =
      λ k b. ⊎_elim (λ (l : i < j). inl (omega arith)) (λ (l : j < i). inr (omega arith)) (other_side h) in
      set_info half (info_offset i + 3) (value % 256) j (apart 3 (omega arith))
      ∙ set_info path (info_offset i + 2) (value / 256) j (apart 2 (omega arith))

  pub seg_id_after : info_offset i + 8 ≤ length path → seg_id (info_field (set_seg_id path i value) i) ≡ value
  unfolding seg_id set_seg_id
  seg_id_after w =
      let after = set_seg_id path i value in
      let high : get_or (info_field after i) 2 0 ≡ value / 256 =
      info_byte after i 2 (omega arith)
      ∙ get_or-set_other half (info_offset i + 3) (info_offset i + 2) (value % 256) 0 (λ e. omega arith)
      ∙ get_or-set_same path (info_offset i + 2) (value / 256) 0 (omega arith) in
      let low : get_or (info_field after i) 3 0 ≡ value % 256 =
      info_byte after i 3 (omega arith)
      ∙ get_or-set_same half (info_offset i + 3) (value % 256) 0 (simp length-set (omega arith)) in
      rw (high, low) (omega arith)
