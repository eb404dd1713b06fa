-- The first station: a path at its first hop and info field passes 5, 6 and 7 only with a first segment of two hops or more, on a peering
-- path of one.
-- Assumes nothing.
use mathlib.Core.Path.{◌≡◌, refl, ◌∙◌}
use mathlib.Core.Bool.{Bool, true, false, not, ◌||◌, cond, and-false}
use mathlib.Core.List.{List, [], ◌∷◌}
use Prim.Native.Nat.{ℕ, zero, suc, ◌+◌, ◌≤◌, ◌<◌}
use native.Mathlib.Omega.{arith}
use borrow.Author.Tests.{eqb-true, eqb-false, not-true, ltb-true, lt-ltb}
use lib.Dec.{eqb, ltb}
use Rattle.std.specs.Prelude.{Ok}
use Rattle.questions.specs.Questions.{all_yes}
use Rattle.octets.proofs.Bools.{first_of, second_of, other_of}
use Rattle.standard_path.specs.Meta.{curr_inf, curr_hf, seg0_len, seg1_len}
use Rattle.standard_path.specs.Header.{infos, hops, segment_of}
use Rattle.answers.specs.Questions.{Questions, first_no}
use Rattle.answers.specs.declared.StandardRoutingError.TheVariants.{AdvanceFailed}
use Rattle.answers.specs.declared.AdvanceError.TheVariants.{HopOutOfBounds, SingleHopSegment, InvalidSegmentIndex, InfoOutOfBounds}
use Rattle.answers.proofs.Asked.{both_yes, none_asked}
use Rattle.edition.specs.declared.Edition.{Edition}
use Rattle.edition.specs.Edition.{peering_path, peering_questions}
use Rattle.place.specs.Place.{segment, ends, is_peering_hop, alone, changes}
use Rattle.segment_check.specs.Segment.{count_of}
use Rattle.journey.proofs.Hops.{Hop}

-- 5, 6 and 7; then 8, and 28
abbrev pub first_three : Edition → List ℕ → Questions
first_three edition path =
    (ltb (curr_hf path) (hops path), AdvanceFailed (HopOutOfBounds (curr_hf path)))
    ∷ (peering_path edition path || not (alone path), AdvanceFailed SingleHopSegment)
    ∷ (eqb (segment path) (curr_inf path), AdvanceFailed (InvalidSegmentIndex (segment path) (curr_inf path)))
    ∷ []

abbrev pub eights : Edition → List ℕ → Questions
eights edition path =
    (ltb (curr_inf path) (infos path), AdvanceFailed (InfoOutOfBounds (curr_inf path)))
    ∷ (not (changes edition path) || ltb (segment path + 1) (infos path), AdvanceFailed (InfoOutOfBounds (segment path + 1)))
    ∷ []

-- at the path's first hop: a first segment of two hops or more, on a peering path one
pub record Begun (edition : Edition) (path : List ℕ) : Type 0 where
  pub at_first : segment path ≡ 0
  pub some : 1 ≤ seg0_len path
  pub two : peering_path edition path ≡ false → 2 ≤ seg0_len path

module _ (edition : Edition) (path : List ℕ) (hf : curr_hf path ≡ 0) (inf : curr_inf path ≡ 0) where
  pub begun : all_yes (first_three edition path) ≡ true → Begun edition path
  unfolding all_yes
  begun e =
      let from-6 = second_of (ltb (curr_hf path) (hops path)) _ e in
      let from-7 = second_of (peering_path edition path || not (alone path)) _ from-6 in
      let at_first : segment path ≡ 0 =
      eqb-true (segment path) (curr_inf path) (first_of (eqb (segment path) (curr_inf path)) _ from-7) ∙ inf in
      let first : segment_of (seg0_len path) (seg1_len path) 0 ≡ 0 = rw hf at at_first in
      let some = there (ltb 0 (seg0_len path)) (ltb 0 (seg0_len path + seg1_len path)) refl first in
      record {
        at_first = at_first;
        some = some;
        two = λ p. two at_first some
            (other_of (peering_path edition path) (not (alone path)) p (first_of (peering_path edition path || not (alone path)) _ from-6));
      }
    where
      there : (first second : Bool) → ltb 0 (seg0_len path) ≡ first → ◌≡◌ {A = ℕ} (cond first 0 (cond second 1 2)) 0 → 0 < seg0_len path
      there true second q z = ltb-true 0 (seg0_len path) q
      there false true q z = absurd (omega arith)
      there false false q z = absurd (omega arith)

      two : segment path ≡ 0 → 0 < seg0_len path → not (alone path) ≡ true → 2 ≤ seg0_len path
      two at_first some q =
          let alone_no : alone path ≡ false = not-true (alone path) q in
          let not_ended : eqb (0 + 1) (seg0_len path) ≡ false = rw (at_first, hf) at alone_no in
          omega (arith, some, eqb-false (0 + 1) (seg0_len path) not_ended)

  -- 8 is then answered yes
  pub eights_yes : Begun edition path → first_no (eights edition path) ≡ Ok tt
  unfolding infos
  eights_yes b =
      both_yes _ _ _ (rw inf (lt-ltb 0 (infos path) (omega (arith, b.some))))
      (both_yes _ _ _ (rw (stays (eqb (0 + 1) (seg0_len path)) refl (peering_path edition path) refl)) none_asked)
    where
      ended : ends path ≡ eqb (0 + 1) (seg0_len path)
      ended = rw (b.at_first, hf)

      stays : (end : Bool) → eqb (0 + 1) (seg0_len path) ≡ end → (peer : Bool) → peering_path edition path ≡ peer → changes edition path ≡ false
      stays false e peer p = rw (ended, e) (and-false (not (is_peering_hop edition path)))
      stays true e true p = rw (p, hf, e)
      stays true e false p = absurd (omega (arith, eqb-true (0 + 1) (seg0_len path) e, b.two p))

  pub first_hop : Begun edition path → first_no (peering_questions edition path) ≡ Ok tt → Hop edition path 0 0
  first_hop b fits = record {
    third = omega arith;
    long = long 1 b.some;
    double = λ p. long 2 (b.two p);
    within = b.some;
    fits = fits;
    back = λ p z. refl;
  }
    where
      long : (n : ℕ) → n ≤ seg0_len path → (u : ℕ) → u ≤ 0 → n ≤ count_of path u
      long n l zero k = l
      long n l (suc u) k = absurd (omega arith)
