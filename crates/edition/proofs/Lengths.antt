-- A path that has the same segment lengths as another, of any length: its counts are the same, and where P of each info field is too, it is
-- a peering path if that one is, and keeps 28's rule if that one does.
-- Assumes nothing.
use mathlib.Core.Path.{◌≡◌, refl}
use mathlib.Core.Bool.{Bool, true, false, not, ◌&&◌}
use mathlib.Core.List.{List}
use Prim.Native.Nat.{ℕ, ◌+◌, ◌≤◌, ◌<◌, min}
use native.Mathlib.Omega.{arith}
use borrow.Author.Tests.{eqb-false, ltb-true}
use lib.Dec.{eqb, ltb}
use Rattle.standard_path.specs.Meta.{seg0_len, seg1_len, seg2_len}
use Rattle.fields.specs.Fields.{peering}
use Rattle.standard_path.specs.Header.{infos, hops, header_size, info_field}
use Rattle.edition.specs.declared.Edition.{Edition}
use Rattle.edition.specs.declared.Edition.TheVariants.{First, Second}
use Rattle.edition.specs.Edition.{peering_form, peering_path, peering_hop, flagged, peering_placed, peering_fits, peering_questions}

pub record SameLengths (path after : List ℕ) : Type 0 where
  pub seg0 : seg0_len after ≡ seg0_len path
  pub seg1 : seg1_len after ≡ seg1_len path
  pub seg2 : seg2_len after ≡ seg2_len path

pub some_of : (n : ℕ) → eqb n 0 ≡ false → 1 ≤ n
some_of n e = omega (arith, eqb-false n 0 e)

-- two nonzero lengths have two info fields
two_of_three : (a b c : ℕ) → 1 ≤ a → 1 ≤ b → 1 < min a 1 + min b 1 + min c 1
two_of_three a b c h k = omega arith

pub infos_of_two : (path : List ℕ) → eqb (seg0_len path) 0 ≡ false → eqb (seg1_len path) 0 ≡ false → 1 < infos path
unfolding infos
infos_of_two path p q = two_of_three (seg0_len path) (seg1_len path) (seg2_len path) (some_of (seg0_len path) p) (some_of (seg1_len path) q)

module _ {path after : List ℕ} (same : SameLengths path after) where
  pub infos_same : infos after ≡ infos path
  unfolding infos
  infos_same = rw (same.seg0, same.seg1, same.seg2)

  pub hops_same : hops after ≡ hops path
  unfolding hops
  hops_same = rw (same.seg0, same.seg1, same.seg2)

  pub header_size_same : header_size after ≡ header_size path
  unfolding header_size
  header_size_same = rw (infos_same, hops_same)

  -- ---- and P of each info field

  module _ (flags : (i : ℕ) → i < infos path → peering (info_field after i) ≡ peering (info_field path i)) where
    pub peering_form_same : peering_form after ≡ peering_form path
    unfolding peering_form
    peering_form_same =
        rw (same.seg0, same.seg1, same.seg2)
        (go (eqb (seg0_len path) 0) refl (eqb (seg1_len path) 0) refl (eqb (seg2_len path) 0))
      where
        go : (none0 : Bool) → eqb (seg0_len path) 0 ≡ none0 → (none1 : Bool) → eqb (seg1_len path) 0 ≡ none1 → (none2 : Bool)
            → ((not none0 && (not none1 && none2)) && (peering (info_field after 0) && peering (info_field after 1)))
            ≡ ((not none0 && (not none1 && none2)) && (peering (info_field path 0) && peering (info_field path 1)))
        go true p none1 q none2 = refl
        go false p true q none2 = refl
        go false p false q false = refl
        go false p false q true = let l = infos_of_two path p q in rw (flags 0 (omega (arith, l)), flags 1 l)

    flagged_same : (i : ℕ) → flagged after i ≡ flagged path i
    flagged_same i = rw infos_same (go (ltb i (infos path)) refl)
      where
        go : (there : Bool) → ltb i (infos path) ≡ there
            → (there && peering (info_field after i)) ≡ (there && peering (info_field path i))
        go true e = flags i (ltb-true _ _ e)
        go false e = refl

    pub placed_same : peering_placed after ≡ peering_placed path
    unfolding peering_placed
    placed_same = rw (peering_form_same, flagged_same 0, flagged_same 1, flagged_same 2)

    pub peering_same : (edition : Edition) → peering_path edition after ≡ peering_path edition path
    peering_same First = refl
    peering_same Second = peering_form_same

    pub fits_same : (edition : Edition) → peering_fits edition after ≡ peering_fits edition path
    fits_same First = refl
    fits_same Second = placed_same

    pub questions_same : (edition : Edition) → peering_questions edition after ≡ peering_questions edition path
    questions_same First = refl
    questions_same Second = rw placed_same

    -- whether hop h is a peering hop
    pub peering_hop_same : (edition : Edition) (h : ℕ) → peering_hop edition after h ≡ peering_hop edition path h
    peering_hop_same edition h = rw (peering_same edition, same.seg0)
