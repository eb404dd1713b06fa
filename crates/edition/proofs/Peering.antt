-- What is kept where the lengths and P of each info field are kept, and paths on which the editions do not differ.
-- Assumes nothing.
use mathlib.Core.Path.{◌≡◌, refl, ◌∙◌}
use mathlib.Core.Bool.{Bool, true, false, not, ◌&&◌, false≢true}
use mathlib.Core.List.{List}
use Prim.Native.Nat.{ℕ, ◌≤◌, ◌<◌}
use native.Mathlib.Omega.{arith}
use borrow.Author.Tests.{eqb-true, ltb-true, not-true}
use lib.Dec.{eqb, ltb}
use Rattle.std.specs.Prelude.{Ok, Err}
use Rattle.questions.specs.Questions.{asks}
use Rattle.octets.proofs.Bools.{first_of, second_of}
use Rattle.standard_path.specs.Meta.{seg0_len, seg1_len, seg2_len}
use Rattle.fields.specs.Fields.{peering}
use Rattle.standard_path.specs.Header.{infos, info_field}
use Rattle.standard_path.proofs.Kept.{Kept}
use Rattle.answers.specs.Questions.{first_no}
use Rattle.answers.specs.declared.AdvanceError.TheVariants.{MisplacedPeering}
use Rattle.answers.specs.declared.StandardRoutingError.TheVariants.{AdvanceFailed}
use Rattle.answers.proofs.Asked.{first_yes, both_yes, none_asked}
use Rattle.edition.proofs.Lengths.{SameLengths, some_of, infos_of_two, peering_form_same, placed_same, peering_same, fits_same, questions_same, peering_hop_same}
use Rattle.edition.specs.declared.Edition.{Edition}
use Rattle.edition.specs.declared.Edition.TheVariants.{First, Second}
use Rattle.edition.specs.Edition.{two_segments, peering_form, peering_path, peering_hop, flagged, peering_placed, peering_fits, peering_questions}

-- the lengths of a peering path
pub record Peering (path : List ℕ) : Type 0 where
  pub seg0 : 1 ≤ seg0_len path
  pub seg1 : 1 ≤ seg1_len path
  pub seg2 : seg2_len path ≡ 0

pub peering_lengths : (edition : Edition) (path : List ℕ) → peering_path edition path ≡ true → Peering path
unfolding peering_form
peering_lengths First path e = absurd (false≢true e)
peering_lengths Second path e =
    let lengths = first_of (two_segments path) _ e in
    let rest = second_of (not (eqb (seg0_len path) 0)) _ lengths in
    record {
      seg0 = some_of (seg0_len path) (not-true _ (first_of (not (eqb (seg0_len path) 0)) _ lengths));
      seg1 = some_of (seg1_len path) (not-true _ (first_of (not (eqb (seg1_len path) 0)) _ rest));
      seg2 = eqb-true _ _ (second_of (not (eqb (seg1_len path) 0)) _ rest);
    }

pub same_lengths : {path after : List ℕ} → Kept path after → SameLengths path after
same_lengths kept = record { seg0 = kept.seg0; seg1 = kept.seg1; seg2 = kept.seg2 }

module _ {path after : List ℕ} (kept : Kept path after)
    (flags : (i : ℕ) → i < infos path → peering (info_field after i) ≡ peering (info_field path i)) where
  pub peering_form_kept : peering_form after ≡ peering_form path
  peering_form_kept = peering_form_same (same_lengths kept) flags

  pub placed_kept : peering_placed after ≡ peering_placed path
  placed_kept = placed_same (same_lengths kept) flags

  pub peering_path_kept : (edition : Edition) → peering_path edition after ≡ peering_path edition path
  peering_path_kept = peering_same (same_lengths kept) flags

  pub fits_kept : (edition : Edition) → peering_fits edition after ≡ peering_fits edition path
  fits_kept = fits_same (same_lengths kept) flags

  pub questions_kept : (edition : Edition) → peering_questions edition after ≡ peering_questions edition path
  questions_kept = questions_same (same_lengths kept) flags

  -- whether hop h is a peering hop
  pub peering_hop_kept : (edition : Edition) (h : ℕ) → peering_hop edition after h ≡ peering_hop edition path h
  peering_hop_kept = peering_hop_same (same_lengths kept) flags

-- ---- no peering path, and 28's rule kept: nothing that the editions decide differently

pub record Plain (path : List ℕ) : Type 0 where
  pub none : peering_form path ≡ false
  pub placed : peering_placed path ≡ true

pub plain_kept : {path after : List ℕ} → Kept path after
    → ((i : ℕ) → i < infos path → peering (info_field after i) ≡ peering (info_field path i)) → Plain path → Plain after
plain_kept kept flags plain = record {
  none = peering_form_kept kept flags ∙ plain.none;
  placed = placed_kept kept flags ∙ plain.placed;
}

-- a path without P
module _ (path : List ℕ) (without : (i : ℕ) → i < infos path → peering (info_field path i) ≡ false) where
  none_flagged : (i : ℕ) → flagged path i ≡ false
  none_flagged i = go (ltb i (infos path)) refl
    where
      go : (there : Bool) → ltb i (infos path) ≡ there → (there && peering (info_field path i)) ≡ false
      go true e = without i (ltb-true _ _ e)
      go false e = refl

  no_form : peering_form path ≡ false
  unfolding peering_form
  no_form = go (eqb (seg0_len path) 0) refl (eqb (seg1_len path) 0) refl (eqb (seg2_len path) 0)
    where
      go : (none0 : Bool) → eqb (seg0_len path) 0 ≡ none0 → (none1 : Bool) → eqb (seg1_len path) 0 ≡ none1 → (none2 : Bool)
          → ((not none0 && (not none1 && none2)) && (peering (info_field path 0) && peering (info_field path 1))) ≡ false
      go true p none1 q none2 = refl
      go false p true q none2 = refl
      go false p false q false = refl
      go false p false q true = let l = infos_of_two path p q in rw (without 0 (omega (arith, l)))

  pub plain_without : Plain path
  unfolding peering_placed
  plain_without = record { none = no_form; placed = rw (no_form, none_flagged 0, none_flagged 1, none_flagged 2) }

-- ---- 28 by its rule

pub fits_valid : (edition : Edition) (path : List ℕ) → peering_fits edition path ≡ true → first_no (peering_questions edition path) ≡ Ok tt
fits_valid First path e = none_asked
fits_valid Second path e = both_yes _ _ _ e none_asked

pub valid_fits : (edition : Edition) (path : List ℕ) → first_no (peering_questions edition path) ≡ Ok tt → peering_fits edition path ≡ true
valid_fits First path e = refl
valid_fits Second path e = first_yes _ _ _ e

pub unfit_invalid : (edition : Edition) (path : List ℕ) → peering_fits edition path ≡ false
    → first_no (peering_questions edition path) ≡ Err (AdvanceFailed MisplacedPeering)
unfolding asks
unfit_invalid First path e = absurd cc
unfit_invalid Second path e = rw e
