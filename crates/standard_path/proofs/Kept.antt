-- A path that is as long and has the same segment lengths; what one store into it keeps, and the bytes of a field.
-- Assumes nothing.
use mathlib.Core.Path.{◌≡◌, refl, ap, sym, ◌∙◌}
use mathlib.Core.Bool.{Bool, true, false}
use mathlib.Core.List.{List}
use mathlib.Core.Logic.{◌⊎◌, inl, inr, ⊎_elim}
use Prim.Native.Nat.{ℕ, ◌+◌, ◌-◌, ◌≤◌, ◌<◌}
use native.Mathlib.Nat.{eq-or-lt_of_le}
use native.Mathlib.Omega.{arith}
use borrow.Author.Tests.{ltb-true, ltb-false}
use lib.Dec.{ltb}
use lib.ListN.{length, get_or, take, drop, set, length-set, get_or-eq_default}
use lib.Seq.{get_or-set_same, get_or-set_other, get_or-take, get_or-drop, drop-set-lt, drop-set-add, take-set-le, set_out}
use Rattle.fields.specs.Layout.{info_offset, hop_offset}
use Rattle.standard_path.specs.Meta.{seg0_len, seg1_len, seg2_len}
use Rattle.standard_path.specs.Header.{infos, hops, header_size, info_field, hop_field, header_check}

-- ---- a path that is as long, and has the same segment lengths

pub record Kept (path after : List ℕ) : Type 0 where
  pub size : length after ≡ length path
  pub seg0 : seg0_len after ≡ seg0_len path
  pub seg1 : seg1_len after ≡ seg1_len path
  pub seg2 : seg2_len after ≡ seg2_len path

pub kept_self : (path : List ℕ) → Kept path path
kept_self path = record { size = refl; seg0 = refl; seg1 = refl; seg2 = refl }

pub kept_trans : {path mid after : List ℕ} → Kept path mid → Kept mid after → Kept path after
kept_trans k l =
    record { size = l.size ∙ k.size; seg0 = l.seg0 ∙ k.seg0; seg1 = l.seg1 ∙ k.seg1; seg2 = l.seg2 ∙ k.seg2 }

module _ {path after : List ℕ} (k : Kept path after) where
  pub infos_kept : infos after ≡ infos path
  unfolding infos
  infos_kept = rw (k.seg0, k.seg1, k.seg2)

  pub hops_kept : hops after ≡ hops path
  unfolding hops
  hops_kept = rw (k.seg0, k.seg1, k.seg2)

  pub header_size_kept : header_size after ≡ header_size path
  unfolding header_size
  header_size_kept = rw (infos_kept, hops_kept)

  pub header_check_kept : header_check after ≡ header_check path
  unfolding header_check
  header_check_kept = rw (k.size, header_size_kept, hops_kept)

-- ---- one store

module _ (path : List ℕ) (at value : ℕ) where
  -- at the first byte, or behind the meta word
  pub set_kept : (at ≡ 0) ⊎ (4 ≤ at) → Kept path (set path at value)
  set_kept h =
      let byte : (i : ℕ) → 0 < i → i < 4 → get_or (set path at value) i 0 ≡ get_or path i 0 = λ i b d.
      get_or-set_other path at i value 0 (λ e. ⊎_elim (λ (z : at ≡ 0). omega arith) (λ (z : 4 ≤ at). omega arith) h) in
      let one = byte 1 (omega arith) (omega arith) in
      let two = byte 2 (omega arith) (omega arith) in
      let three = byte 3 (omega arith) (omega arith) in
      record { size = length-set path at value; seg0 = rw (one, two); seg1 = rw (two, three); seg2 = rw three }

  -- a part of n bytes that does not have the byte
  pub part_kept : (a n : ℕ) → (at < a) ⊎ (a + n ≤ at) → take n (drop a (set path at value)) ≡ take n (drop a path)
  part_kept a n (inl h) = ap (take n) (drop-set-lt a path at value h)
  part_kept a n (inr h) =
      let i = at - a in
      let e : at ≡ a + i = omega arith in
      ap (λ (j : ℕ). take n (drop a (set path j value))) e ∙ ap (take n) (drop-set-add a path i value)
      ∙ take-set-le n (drop a path) i value (omega arith)

  pub set_info : (j : ℕ) → (at < info_offset j) ⊎ (info_offset j + 8 ≤ at) → info_field (set path at value) j ≡ info_field path j
  unfolding info_field
  set_info j = part_kept (info_offset j) 8

  pub set_hop : Kept path (set path at value) → (j : ℕ)
      → (at < hop_offset (infos path) j) ⊎ (hop_offset (infos path) j + 12 ≤ at) → hop_field (set path at value) j ≡ hop_field path j
  unfolding hop_field
  set_hop k j h = rw (infos_kept k) (part_kept (hop_offset (infos path) j) 12 h)

  pub set_past : at < header_size path → drop (header_size path) (set path at value) ≡ drop (header_size path) path
  set_past = drop-set-lt (header_size path) path at value

  -- the byte itself; past the end a 0 can be set
  pub set_byte : (length path ≤ at → value ≡ 0) → get_or (set path at value) at 0 ≡ value
  set_byte h = go (ltb at (length path)) refl
    where
      go : (b : Bool) → ltb at (length path) ≡ b → get_or (set path at value) at 0 ≡ value
      go true e = get_or-set_same path at value 0 (ltb-true at (length path) e)
      go false e =
          let l : length path ≤ at = ltb-false at (length path) e in
          rw (set_out path at value l) (get_or-eq_default path 0 l ∙ sym (h l))

-- ---- the bytes of a field

pub info_byte : (path : List ℕ) (j k : ℕ) → k < 8 → get_or (info_field path j) k 0 ≡ get_or path (info_offset j + k) 0
unfolding info_field
info_byte path j k h = get_or-take 8 (drop (info_offset j) path) k 0 h ∙ get_or-drop (info_offset j) path k 0

pub hop_byte : (path : List ℕ) (j k : ℕ) → k < 12 → get_or (hop_field path j) k 0 ≡ get_or path (hop_offset (infos path) j + k) 0
unfolding hop_field
hop_byte path j k h = get_or-take 12 (drop (hop_offset (infos path) j) path) k 0 h ∙ get_or-drop (hop_offset (infos path) j) path k 0

pub other_side : {i j : ℕ} → (j ≡ i → ⊥) → (i < j) ⊎ (j < i)
other_side {i} {j} h = go (ltb i j) refl
  where
    go : (b : Bool) → ltb i j ≡ b → (i < j) ⊎ (j < i)
    go true e = inl (ltb-true i j e)
    go false e = let l : j ≤ i = ltb-false i j e in ⊎_elim (λ (q : j ≡ i). absurd (h q)) inr (eq-or-lt_of_le l)
