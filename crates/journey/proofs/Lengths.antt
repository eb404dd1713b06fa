-- Lengths that fit are one, two or three segments of two hops or more: what they say of hops and stations, and the test for them.
-- Assumes nothing.
use mathlib.Core.Path.{◌≡◌, refl, sym, ◌∙◌}
use mathlib.Core.Bool.{Bool, true, false, not, ◌&&◌, ◌||◌, or-true, false≢true, cond}
use mathlib.Core.List.{List}
use Prim.Native.Nat.{ℕ, zero, suc, ◌+◌, ◌≤◌, ◌<◌}
use native.Mathlib.Omega.{arith}
use borrow.Author.Tests.{eqb-true, eq-eqb, ne_eqb, le-leb, leb-true, not-true}
use lib.Dec.{eqb, leb}
use lib.ListN.{length}
use Rattle.std.specs.Prelude.{Ok}
use Rattle.octets.proofs.Bools.{both, each_of, each_of_4, either, other_of}
use Rattle.standard_path.specs.Meta.{seg0_len, seg1_len, seg2_len}
use Rattle.standard_path.specs.Header.{infos, hops}
use Rattle.answers.specs.Questions.{first_no}
use Rattle.edition.specs.declared.Edition.{Edition}
use Rattle.edition.specs.Edition.{peering_path, peering_questions}
use Rattle.station.specs.Station.{Station}
use Rattle.segment_check.specs.Segment.{start_of, count_of}
use Rattle.journey_questions.specs.Lengths.{long_enough, lengths_fit, lengths_pass, shared}
use Rattle.segment_check.proofs.All.{at_most_three}
use Rattle.edition.proofs.Peering.{peering_lengths}
use Rattle.journey.proofs.Hops.{Hop, before_end}

pub data Shape (edition : Edition) (path : List ℕ) : Type 0 where
  one : 2 ≤ seg0_len path → seg1_len path ≡ 0 → seg2_len path ≡ 0 → Shape edition path
  two : peering_path edition path ≡ false → 2 ≤ seg0_len path → 2 ≤ seg1_len path → seg2_len path ≡ 0 → Shape edition path
  three : 2 ≤ seg0_len path → 2 ≤ seg1_len path → 2 ≤ seg2_len path → Shape edition path
  linked : peering_path edition path ≡ true → Shape edition path

-- a peering path has two info fields
pub linked_infos : (edition : Edition) (path : List ℕ) → peering_path edition path ≡ true → infos path ≡ 2
unfolding infos
linked_infos edition path p = let l = peering_lengths edition path p in omega (arith, l.seg0, l.seg1, l.seg2)

-- hops less stations, plus one
abbrev pub spare : Edition → List ℕ → ℕ
spare edition path = cond (peering_path edition path) 1 (infos path)

-- there is a station for each hop
plain_enough : (path : List ℕ) (t m : ℕ) → t < 3 → m < count_of path t → start_of path t + m + infos path ≤ hops path + t
unfolding infos hops
plain_enough path zero m h w = omega arith
plain_enough path (suc zero) m h w = omega arith
plain_enough path (suc (suc zero)) m h w = omega arith
plain_enough path (suc (suc (suc t))) m h w = absurd (omega arith)

pub hops_enough : (edition : Edition) (path : List ℕ) (t m : ℕ) → t < 3 → m < count_of path t
    → start_of path t + m + spare edition path ≤ hops path + shared edition path t
hops_enough edition path t m h w = go (peering_path edition path)
  where
    go : (peer : Bool) → start_of path t + m + cond peer 1 (infos path) ≤ hops path + cond peer 0 t
    go true = omega (arith, before_end path t h)
    go false = plain_enough path t m h w

-- as many stations as the hops left ask for, and a reading for each
abbrev pub Enough : Edition → List ℕ → ℕ → ℕ → List Station → List ℕ → Type 0
Enough edition path t m stations readings =
    (length stations + (start_of path t + m) + spare edition path ≡ hops path + 1 + shared edition path t)
    × (length readings ≡ length stations)

module _ {edition : Edition} {path : List ℕ} where
  -- each segment with an info field has a hop, and two or more but on a peering path
  pub all_long : Shape edition path → (t : ℕ) → t < infos path → 1 ≤ count_of path t
  unfolding infos
  all_long (one a b c) zero h = omega arith
  all_long (one a b c) (suc t) h = absurd (omega arith)
  all_long (two p a b c) zero h = omega arith
  all_long (two p a b c) (suc zero) h = omega arith
  all_long (two p a b c) (suc (suc t)) h = absurd (omega arith)
  all_long (three a b c) zero h = omega arith
  all_long (three a b c) (suc zero) h = omega arith
  all_long (three a b c) (suc (suc zero)) h = omega arith
  all_long (three a b c) (suc (suc (suc t))) h = absurd (omega arith)
  all_long (linked p) zero h = (peering_lengths edition path p).seg0
  all_long (linked p) (suc zero) h = (peering_lengths edition path p).seg1
  all_long (linked p) (suc (suc t)) h = absurd (omega (arith, linked_infos edition path p))

  pub all_double : Shape edition path → peering_path edition path ≡ false → (t : ℕ) → t < infos path → 2 ≤ count_of path t
  unfolding infos
  all_double (one a b c) q zero h = a
  all_double (one a b c) q (suc t) h = absurd (omega arith)
  all_double (two p a b c) q zero h = a
  all_double (two p a b c) q (suc zero) h = b
  all_double (two p a b c) q (suc (suc t)) h = absurd (omega arith)
  all_double (three a b c) q zero h = a
  all_double (three a b c) q (suc zero) h = b
  all_double (three a b c) q (suc (suc zero)) h = c
  all_double (three a b c) q (suc (suc (suc t))) h = absurd (omega arith)
  all_double (linked p) q t h = absurd (false≢true (sym q ∙ p))

  pub some_infos : Shape edition path → 0 < infos path
  unfolding infos
  some_infos (one a b c) = omega arith
  some_infos (two p a b c) = omega arith
  some_infos (three a b c) = omega arith
  some_infos (linked p) = omega (arith, linked_infos edition path p)

  -- the path's first hop
  pub first_of_shape : Shape edition path → first_no (peering_questions edition path) ≡ Ok tt → Hop edition path 0 0
  first_of_shape shape fits = record {
    third = omega arith;
    long = λ u l. all_long shape u (omega (arith, some_infos shape));
    double = λ p u l. all_double shape p u (omega (arith, some_infos shape));
    within = all_long shape 0 (some_infos shape);
    fits = fits;
    back = λ p z. refl;
  }

  -- the station of a hop is among those that 23 counts
  pub station_among : Shape edition path → (t m : ℕ) → t < infos path → m < count_of path t
      → start_of path t + m + spare edition path ≤ hops path + shared edition path t
  station_among shape t m h w = hops_enough edition path t m (at_most_three path t h) w

  -- the segment that ends the path is the last
  pub last_segment : Shape edition path → (t : ℕ) → t < infos path → start_of path t + count_of path t ≡ hops path → t + 1 ≡ infos path
  unfolding infos hops
  last_segment (one a b c) zero h e = omega arith
  last_segment (one a b c) (suc t) h e = absurd (omega arith)
  last_segment (two p a b c) zero h e = absurd (omega arith)
  last_segment (two p a b c) (suc zero) h e = omega arith
  last_segment (two p a b c) (suc (suc t)) h e = absurd (omega arith)
  last_segment (three a b c) zero h e = absurd (omega arith)
  last_segment (three a b c) (suc zero) h e = absurd (omega arith)
  last_segment (three a b c) (suc (suc zero)) h e = omega arith
  last_segment (three a b c) (suc (suc (suc t))) h e = absurd (omega arith)
  last_segment (linked p) zero h e = let l = peering_lengths edition path p in absurd (omega (arith, l.seg1))
  last_segment (linked p) (suc zero) h e = let q = linked_infos edition path p in omega arith
  last_segment (linked p) (suc (suc t)) h e = let q = linked_infos edition path p in absurd (omega arith)

  -- no hop starts before the stations that its segment shares
  plain_start : Shape edition path → (t : ℕ) → t < infos path → t ≤ start_of path t
  unfolding infos
  plain_start shape zero h = omega arith
  plain_start (one a b c) (suc t) h = absurd (omega arith)
  plain_start (two p a b c) (suc zero) h = omega arith
  plain_start (two p a b c) (suc (suc t)) h = absurd (omega arith)
  plain_start (three a b c) (suc zero) h = omega arith
  plain_start (three a b c) (suc (suc zero)) h = omega arith
  plain_start (three a b c) (suc (suc (suc t))) h = absurd (omega arith)
  plain_start (linked p) (suc zero) h = (peering_lengths edition path p).seg0
  plain_start (linked p) (suc (suc t)) h = absurd (omega (arith, linked_infos edition path p))

  pub start_enough : Shape edition path → (t : ℕ) → t < infos path → shared edition path t ≤ start_of path t
  start_enough shape t h = go (peering_path edition path)
    where
      go : (peer : Bool) → cond peer 0 t ≤ start_of path t
      go true = omega arith
      go false = plain_start shape t h

-- ---- the test

two_or_more : (n : ℕ) → long_enough n ≡ true → eqb n 0 ≡ false → 2 ≤ n
two_or_more n e f = leb-true 2 n (other_of (eqb n 0) (leb 2 n) f e)

plain_shape : (edition : Edition) (path : List ℕ) → peering_path edition path ≡ false
    → lengths_fit (seg0_len path) (seg1_len path) (seg2_len path) ≡ true → Shape edition path
unfolding lengths_fit
plain_shape edition path plain e = go (eqb (seg1_len path) 0) refl (eqb (seg2_len path) 0) refl
  where
    first : Bool
    first = not (eqb (seg0_len path) 0)

    gap : Bool
    gap = not (eqb (seg1_len path) 0) || eqb (seg2_len path) 0

    long : ((first && gap) ≡ true) × (long_enough (seg0_len path) ≡ true) × (long_enough (seg1_len path) ≡ true)
        × (long_enough (seg2_len path) ≡ true)
    long = each_of_4 (first && gap) _ _ _ e

    begun : (first ≡ true) × (gap ≡ true)
    begun = each_of first gap long.0

    seg0 : 2 ≤ seg0_len path
    seg0 = two_or_more (seg0_len path) long.1 (not-true _ begun.0)

    go : (no1 : Bool) → eqb (seg1_len path) 0 ≡ no1 → (no2 : Bool) → eqb (seg2_len path) 0 ≡ no2 → Shape edition path
    go true p true q = one seg0 (eqb-true _ _ p) (eqb-true _ _ q)
    go true p false q = absurd (false≢true (sym (rw (p, q)) ∙ begun.1))
    go false p true q = two plain seg0 (two_or_more (seg1_len path) long.2 p) (eqb-true _ _ q)
    go false p false q =
        three seg0 (two_or_more (seg1_len path) long.2 p) (two_or_more (seg2_len path) long.3 q)

long_two : (n : ℕ) → 2 ≤ n → long_enough n ≡ true
long_two n h = either (eqb n 0) (leb 2 n) (λ e. le-leb 2 n h)

some_two : (n : ℕ) → 2 ≤ n → not (eqb n 0) ≡ true
some_two n h = rw (ne_eqb n 0 (λ (e : n ≡ 0). omega arith))

pub fit_shape : (edition : Edition) (path : List ℕ) → lengths_pass edition path ≡ true → Shape edition path
fit_shape edition path e = go (peering_path edition path) refl e
  where
    go : (peer : Bool) → peering_path edition path ≡ peer → (peer || lengths_fit (seg0_len path) (seg1_len path) (seg2_len path)) ≡ true
        → Shape edition path
    go true p q = linked p
    go false p q = plain_shape edition path p q

pub shape_fit : {edition : Edition} {path : List ℕ} → Shape edition path → lengths_pass edition path ≡ true
unfolding lengths_fit
shape_fit {edition} {path} (one a b c) =
    either (peering_path edition path) _
    (λ e. both (both (both (both (some_two _ a) (rw (eq-eqb _ _ c) (or-true (not (eqb (seg1_len path) 0))))) (long_two _ a)) (rw (eq-eqb _ _ b)))
    (rw (eq-eqb _ _ c)))
shape_fit {edition} {path} (two p a b c) =
    either (peering_path edition path) _
    (λ e. both (both (both (both (some_two _ a) (rw (eq-eqb _ _ c) (or-true (not (eqb (seg1_len path) 0))))) (long_two _ a)) (long_two _ b))
    (rw (eq-eqb _ _ c)))
shape_fit {edition} {path} (three a b c) =
    either (peering_path edition path) _
    (λ e. both (both (both (both (some_two _ a) (rw (some_two _ b))) (long_two _ a)) (long_two _ b)) (long_two _ c))
shape_fit (linked p) = rw p
