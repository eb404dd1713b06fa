-- Info fields with C toggled: what is in them, and what the toggling leaves as it was.
-- Assumes nothing.
use mathlib.Core.Path.{◌≡◌, refl, sym, ap, ◌∙◌}
use mathlib.Core.Bool.{Bool, true, false, not}
use mathlib.Core.List.{List, [], ◌∷◌}
use mathlib.Core.Logic.{inr, ⊎_elim}
use Prim.Native.Nat.{ℕ, zero, suc, ◌/◌, ◌%◌, ◌≤◌, ◌<◌}
use native.Mathlib.Nat.{add-zero, not-suc-le-zero, le_of_suc-le-suc, eq-or-lt_of_le}
use native.Mathlib.Omega.{arith}
use lib.Dec.{eqb}
use lib.ListN.{length, get_or, set, take, drop, length-set}
use lib.Seq.{take-set-le, take-set-lt, drop-set-lt, drop-set-add, get_or-take, get_or-drop}
use borrow.Author.Tests.{eqb-true, eqb-false, eq-eqb, ne_eqb}
use Rattle.fields.specs.Layout.{info_offset}
use Rattle.fields.specs.Fields.{cons_dir, peering, seg_id, timestamp}
use Rattle.standard_path.proofs.Kept.{part_kept}
use Rattle.reverse_parts.specs.Parts.{toggled, toggle_cons_dir, toggle_cons_dirs}

-- an info field with C toggled
abbrev pub toggle_info : List ℕ → List ℕ
toggle_info info = set info 0 (toggled (get_or info 0 0))

pub cons_dir_toggled : (info : List ℕ) → 0 < length info → cons_dir (toggle_info info) ≡ not (cons_dir info)
unfolding cons_dir
cons_dir_toggled [] h = absurd (omega arith)
cons_dir_toggled (flags ∷ rest) h = go (eqb (flags % 2) 1) refl
  where
    go : (b : Bool) → eqb (flags % 2) 1 ≡ b → eqb (toggled flags % 2) 1 ≡ not (eqb (flags % 2) 1)
    go true e = rw e (ne_eqb (toggled flags % 2) 1 (λ z. omega (arith, eqb-true (flags % 2) 1 e)))
    go false e = rw e (eq-eqb (toggled flags % 2) 1 (omega (arith, eqb-false (flags % 2) 1 e)))

pub peering_toggled : (info : List ℕ) → peering (toggle_info info) ≡ peering info
unfolding peering
peering_toggled [] = refl
peering_toggled (flags ∷ rest) = let e : toggled flags / 2 % 2 ≡ flags / 2 % 2 = omega arith in ap (λ (x : ℕ). eqb x 1) e

pub seg_id_toggled : (info : List ℕ) → seg_id (toggle_info info) ≡ seg_id info
unfolding seg_id
seg_id_toggled [] = refl
seg_id_toggled (flags ∷ rest) = refl

pub timestamp_toggled : (info : List ℕ) → timestamp (toggle_info info) ≡ timestamp info
unfolding timestamp
timestamp_toggled [] = refl
timestamp_toggled (flags ∷ rest) = refl

-- the info field that starts with the byte set
toggle_at : (path : List ℕ) (at : ℕ) → take 8 (drop at (set path at (toggled (get_or path at 0)))) ≡ toggle_info (take 8 (drop at path))
toggle_at path at =
    let new = toggled (get_or path at 0) in
    let flags : get_or path at 0 ≡ get_or (take 8 (drop at path)) 0 0 =
    sym (get_or-take 8 (drop at path) 0 0 (omega arith) ∙ get_or-drop at path 0 0 ∙ ap (λ (j : ℕ). get_or path j 0) (add-zero at)) in
    ap (λ (j : ℕ). take 8 (drop at (set path j new))) (sym (add-zero at))
    ∙ rw (drop-set-add at path 0 new, take-set-lt 8 (drop at path) 0 new (omega arith), flags)

-- ---- C toggled in n info fields

module _ (path : List ℕ) where
  pub length_toggle : (n : ℕ) → length (toggle_cons_dirs n path) ≡ length path
  unfolding toggle_cons_dirs toggle_cons_dir
  length_toggle zero = refl
  length_toggle (suc n) = length-set (toggle_cons_dirs n path) (info_offset n) _ ∙ length_toggle n

  pub before_toggle : (n k : ℕ) → k ≤ 4 → take k (toggle_cons_dirs n path) ≡ take k path
  unfolding toggle_cons_dirs toggle_cons_dir
  before_toggle zero k h = refl
  before_toggle (suc n) k h = take-set-le k (toggle_cons_dirs n path) (info_offset n) _ (omega arith) ∙ before_toggle n k h

  pub behind_toggle : (n k : ℕ) → info_offset n ≤ k → drop k (toggle_cons_dirs n path) ≡ drop k path
  unfolding toggle_cons_dirs toggle_cons_dir
  behind_toggle zero k h = refl
  behind_toggle (suc n) k h = drop-set-lt k (toggle_cons_dirs n path) (info_offset n) _ (omega arith) ∙ behind_toggle n k (omega arith)

  pub toggled_info : (n i : ℕ) → i < n
      → take 8 (drop (info_offset i) (toggle_cons_dirs n path)) ≡ toggle_info (take 8 (drop (info_offset i) path))
  unfolding toggle_cons_dirs toggle_cons_dir
  toggled_info zero i h = absurd (not-suc-le-zero h)
  toggled_info (suc n) i h =
      let last = ap (λ (l : List ℕ). toggle_info (take 8 l)) (behind_toggle n (info_offset n) (omega arith)) in
      ⊎_elim (λ (e : i ≡ n). rw e (toggle_at (toggle_cons_dirs n path) (info_offset n) ∙ last))
      (λ (b : i < n). part_kept (toggle_cons_dirs n path) (info_offset n) _ (info_offset i) 8 (inr (omega arith)) ∙ toggled_info n i b)
      (eq-or-lt_of_le (le_of_suc-le-suc h))
