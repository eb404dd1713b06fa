-- Hops by segment and place: hop m of segment t is in the middle of its segment, or the last of the path, or at a joint.
-- Assumes nothing.
use mathlib.Core.Path.{◌≡◌, refl, ap, sym, ◌∙◌}
use mathlib.Core.Bool.{Bool, true, false, not, ◌&&◌, ◌||◌, and-false, or-true, false≢true}
use mathlib.Core.List.{List}
use Prim.Native.Nat.{ℕ, zero, suc, ◌+◌, ◌≤◌, ◌<◌}
use native.Mathlib.Omega.{arith}
use borrow.Author.Tests.{eqb-true, eqb-false, eq-eqb, ne_eqb, ltb-true, ltb-false, lt-ltb, le-ltb, le-leb, lt-leb, leb-true, leb-false}
use lib.Dec.{eqb, ltb, leb}
use Rattle.std.specs.Prelude.{Ok}
use Rattle.std.specs.Result.{is_ok}
use Rattle.questions.specs.Questions.{all_yes}
use Rattle.standard_path.specs.Meta.{curr_inf, curr_hf, seg0_len, seg1_len, seg2_len}
use Rattle.standard_path.specs.Header.{infos, hops, segment_of, segment_end}
use Rattle.standard_path.proofs.Kept.{infos_kept, hops_kept}
use Rattle.answers.specs.Questions.{first_no}
use Rattle.answers.proofs.Asked.{both_yes, none_asked}
use Rattle.edition.specs.declared.Edition.{Edition}
use Rattle.edition.specs.Edition.{peering_path, first_peering_hop, peering_questions}
use Rattle.edition.proofs.Peering.{Peering, peering_lengths}
use Rattle.place.specs.Place.{segment, starts, ends, is_final, is_peering_hop, crosses, changes, ingress_place}
use Rattle.routing.proofs.Inside.{inside_questions}
use Rattle.segment_check.specs.Segment.{start_of, count_of, peering_hop_of}
use Rattle.journey.proofs.Yes.{valid_yes}
use Rattle.journey.proofs.Stands.{Stands, peering_path_here, fits_here, peer_here, crosses_here}

-- ---- hop m of segment t, which the path comes to: this segment and all before it have two hops or more, on a peering path one or more;
-- 28's rule holds; and it is no segment's first but the path's or a peering hop

pub record Hop (edition : Edition) (path : List ℕ) (t m : ℕ) : Type 0 where
  pub third : t < 3
  pub long : (u : ℕ) → u ≤ t → 1 ≤ count_of path u
  pub double : peering_path edition path ≡ false → (u : ℕ) → u ≤ t → 2 ≤ count_of path u
  pub within : m < count_of path t
  pub fits : first_no (peering_questions edition path) ≡ Ok tt
  pub back : peering_hop_of edition path t m ≡ false → m ≡ 0 → t ≡ 0

module _ (path : List ℕ) where
  pub segment_of_lem : (t m : ℕ) → t < 3 → m < count_of path t → segment_of (seg0_len path) (seg1_len path) (start_of path t + m) ≡ t
  segment_of_lem zero m h w = rw (lt-ltb (0 + m) (seg0_len path) (omega arith))
  segment_of_lem (suc zero) m h w =
      rw (le-ltb (seg0_len path + m) (seg0_len path) (omega arith), lt-ltb (seg0_len path + m) (seg0_len path + seg1_len path) (omega arith))
  segment_of_lem (suc (suc zero)) m h w =
      rw (
        le-ltb (seg0_len path + seg1_len path + m) (seg0_len path) (omega arith),
        le-ltb (seg0_len path + seg1_len path + m) (seg0_len path + seg1_len path) (omega arith),
      )
  segment_of_lem (suc (suc (suc t))) m h w = absurd (omega arith)

  pub segment_end_lem : (t : ℕ) → t < 3 → segment_end (seg0_len path) (seg1_len path) (seg2_len path) t ≡ start_of path t + count_of path t
  segment_end_lem zero h = omega arith
  segment_end_lem (suc zero) h = refl
  segment_end_lem (suc (suc zero)) h = refl
  segment_end_lem (suc (suc (suc t))) h = absurd (omega arith)

  pub before_end : (t : ℕ) → t < 3 → start_of path t + count_of path t ≤ hops path
  unfolding hops
  before_end zero h = omega arith
  before_end (suc zero) h = omega arith
  before_end (suc (suc zero)) h = omega arith
  before_end (suc (suc (suc t))) h = absurd (omega arith)

  -- the segment behind
  pub start_next : (t : ℕ) → t < 2 → start_of path (t + 1) ≡ start_of path t + count_of path t
  start_next zero h = omega arith
  start_next (suc zero) h = refl
  start_next (suc (suc t)) h = absurd (omega arith)

  pub in_header : (t : ℕ) → t < 3 → ((u : ℕ) → u ≤ t → 1 ≤ count_of path u) → t < infos path
  unfolding infos
  in_header zero h long = omega (arith, long 0 (omega arith))
  in_header (suc zero) h long = omega (arith, long 0 (omega arith), long 1 (omega arith))
  in_header (suc (suc zero)) h long = omega (arith, long 0 (omega arith), long 1 (omega arith), long 2 (omega arith))
  in_header (suc (suc (suc t))) h long = absurd (omega arith)

  -- a segment that does not end the path has an info field behind its own
  pub next_in_header : (t : ℕ) → t < 3 → ((u : ℕ) → u ≤ t → 1 ≤ count_of path u) → start_of path t + count_of path t < hops path
      → (t < 2) × (t + 1 < infos path)
  unfolding infos hops
  next_in_header zero h long l = (omega arith, omega (arith, long 0 (omega arith)))
  next_in_header (suc zero) h long l = (omega arith, omega (arith, long 0 (omega arith), long 1 (omega arith)))
  next_in_header (suc (suc zero)) h long l = absurd (omega arith)
  next_in_header (suc (suc (suc t))) h long l = absurd (omega arith)

-- ---- the place, in the words of the questions

module _ {edition : Edition} {path mid : List ℕ} {t m value : ℕ} (s : Stands edition path mid t m value) (t3 : t < 3)
    (within : m < count_of path t) where
  at_segment : segment mid ≡ t
  at_segment = rw (s.kept.seg0, s.kept.seg1, s.hf) (segment_of_lem path t m t3 within)

  at_ends : (end : Bool) → eqb (m + 1) (count_of path t) ≡ end → ends mid ≡ end
  at_ends end e =
      rw (at_segment, s.kept.seg0, s.kept.seg1, s.kept.seg2, s.hf, segment_end_lem path t t3) (go end e)
    where
      go : (end : Bool) → eqb (m + 1) (count_of path t) ≡ end → eqb (start_of path t + m + 1) (start_of path t + count_of path t) ≡ end
      go true e = eq-eqb (start_of path t + m + 1) (start_of path t + count_of path t) (omega (arith, eqb-true (m + 1) (count_of path t) e))
      go false e =
          ne_eqb _ _ (λ (q : start_of path t + m + 1 ≡ start_of path t + count_of path t). eqb-false (m + 1) (count_of path t) e (omega arith))

  at_starts : starts mid ≡ eqb m 0
  at_starts = rw (at_segment, s.kept.seg0, s.kept.seg1, s.hf) (go (eqb m 0) refl)
    where
      go : (first : Bool) → eqb m 0 ≡ first → eqb (start_of path t + m) (start_of path t) ≡ first
      go true e = eq-eqb (start_of path t + m) (start_of path t) (omega (arith, eqb-true m 0 e))
      go false e = ne_eqb _ _ (λ (q : start_of path t + m ≡ start_of path t). eqb-false m 0 e (omega arith))

  at_final : (final : Bool) → leb (hops path) (start_of path t + m + 1) ≡ final → is_final mid ≡ final
  at_final final e = rw (hops_kept s.kept, s.hf) e

-- the next hop lies in the same segment, or over the peering link
pub data Onward (edition : Edition) (path : List ℕ) (t m : ℕ) : Type 0 where
  inner : m + 1 < count_of path t → Onward edition path t m
  over : peering_path edition path ≡ true → t ≡ 0 → m + 1 ≡ count_of path t → Onward edition path t m

-- where that is
abbrev pub next_segment : {edition : Edition} {path : List ℕ} {t m : ℕ} → Onward edition path t m → ℕ
next_segment {t = t} (inner e) = t
next_segment {t = t} (over p z e) = t + 1

abbrev pub next_place : {edition : Edition} {path : List ℕ} {t m : ℕ} → Onward edition path t m → ℕ
next_place {m = m} (inner e) = m + 1
next_place (over p z e) = 0

module _ (edition : Edition) (path : List ℕ) where
  -- inside a segment no hop is the first peering hop
  pub inner_stays : (t m : ℕ) → t < 3 → m + 1 < count_of path t → first_peering_hop edition path (start_of path t + m) ≡ false
  inner_stays t m h e = rw (apart t h e) (and-false (peering_path edition path))
    where
      apart : (t : ℕ) → t < 3 → m + 1 < count_of path t → eqb (start_of path t + m + 1) (seg0_len path) ≡ false
      apart zero h e = ne_eqb (0 + m + 1) (seg0_len path) (λ (q : 0 + m + 1 ≡ seg0_len path). omega arith)
      apart (suc zero) h e = ne_eqb (seg0_len path + m + 1) (seg0_len path) (λ (q : seg0_len path + m + 1 ≡ seg0_len path). omega arith)
      apart (suc (suc zero)) h e =
          ne_eqb (seg0_len path + seg1_len path + m + 1) (seg0_len path) (λ (q : seg0_len path + seg1_len path + m + 1 ≡ seg0_len path). omega arith)
      apart (suc (suc (suc t))) h e = absurd (omega arith)

  first_ends : (t m : ℕ) → t ≡ 0 → m + 1 ≡ count_of path t → eqb (start_of path t + m + 1) (seg0_len path) ≡ true
  first_ends zero m z e = eq-eqb (0 + m + 1) (seg0_len path) (omega arith)
  first_ends (suc t) m z e = absurd (omega arith)

  -- the first peering hop, and the second
  pub over_crosses : (t m : ℕ) → peering_path edition path ≡ true → t ≡ 0 → m + 1 ≡ count_of path t
      → first_peering_hop edition path (start_of path t + m) ≡ true
  over_crosses t m p z e = rw (p, first_ends t m z e)

  pub over_peer : (t m : ℕ) → peering_path edition path ≡ true → t ≡ 0 → m + 1 ≡ count_of path t → peering_hop_of edition path t m ≡ true
  over_peer t m p z e = rw (p, first_ends t m z e)

  pub second_peer : (t : ℕ) → peering_path edition path ≡ true → t ≡ 0 → peering_hop_of edition path (t + 1) 0 ≡ true
  second_peer zero p z =
      let q : seg0_len path + 0 ≡ seg0_len path = omega arith in
      rw (p, eq-eqb (seg0_len path + 0) (seg0_len path) q) (or-true (eqb (seg0_len path + 0 + 1) (seg0_len path)))
  second_peer (suc t) p z = absurd (omega arith)

-- the three kinds of hops
pub data Kind (edition : Edition) (path : List ℕ) (t m : ℕ) : Type 0 where
  middle : Onward edition path t m → Kind edition path t m
  last : m + 1 ≡ count_of path t → start_of path t + m + 1 ≡ hops path → Kind edition path t m
  joint : peering_path edition path ≡ false → m + 1 ≡ count_of path t → start_of path t + m + 1 < hops path → Kind edition path t m

-- only the first segment of a peering path does not end it
only_first : (path : List ℕ) (t : ℕ) → t < 3 → Peering path → start_of path t + count_of path t < hops path → t ≡ 0
unfolding hops
only_first path zero l p b = refl
only_first path (suc zero) l p b = absurd (omega (arith, p.seg2))
only_first path (suc (suc zero)) l p b = absurd (omega arith)
only_first path (suc (suc (suc t))) l p b = absurd (omega arith)

pub kind : (edition : Edition) (path : List ℕ) (t m : ℕ) → Hop edition path t m → Kind edition path t m
kind edition path t m h =
    go (ltb (m + 1) (count_of path t)) refl (ltb (start_of path t + m + 1) (hops path)) refl (peering_path edition path) refl
  where
    go : (more : Bool) → ltb (m + 1) (count_of path t) ≡ more → (beyond : Bool) → ltb (start_of path t + m + 1) (hops path) ≡ beyond
        → (peer : Bool) → peering_path edition path ≡ peer → Kind edition path t m
    go true e beyond f peer p = middle (inner (ltb-true _ _ e))
    go false e true f false p = let q = ltb-false (m + 1) (count_of path t) e in joint p (omega (arith, h.within)) (ltb-true _ _ f)
    go false e true f true p =
        let q = ltb-false (m + 1) (count_of path t) e in
        let r = ltb-true (start_of path t + m + 1) (hops path) f in
        let end : m + 1 ≡ count_of path t = omega (arith, h.within) in
        middle (over p (only_first path t h.third (peering_lengths edition path p) (omega arith)) end)
    go false e false f peer p =
        let q = ltb-false (m + 1) (count_of path t) e in
        let r = ltb-false (start_of path t + m + 1) (hops path) f in
        last (omega (arith, h.within)) (omega (arith, before_end path t h.third, h.within))

-- what the step finds out about the place
pub record Placed (edition : Edition) (mid : List ℕ) (change final : Bool) : Type 0 where
  pub valid : first_no (ingress_place edition mid) ≡ Ok tt
  pub changing : changes edition mid ≡ change
  pub ending : is_final mid ≡ final

abbrev pub is_joint : {edition : Edition} {path : List ℕ} {t m : ℕ} → Kind edition path t m → Bool
is_joint (middle o) = false
is_joint (last e f) = false
is_joint (joint p e f) = true

abbrev pub is_last : {edition : Edition} {path : List ℕ} {t m : ℕ} → Kind edition path t m → Bool
is_last (middle o) = false
is_last (last e f) = true
is_last (joint p e f) = false

-- the first segment of a peering path does not end it
pub over_before : (edition : Edition) (path : List ℕ) (t : ℕ) → peering_path edition path ≡ true → t ≡ 0
    → start_of path t + count_of path t < hops path
unfolding hops
over_before edition path zero p z = let l = peering_lengths edition path p in omega (arith, l.seg1)
over_before edition path (suc t) p z = absurd (omega arith)

module _ {edition : Edition} {path mid : List ℕ} {t m value : ℕ} (s : Stands edition path mid t m value) (h : Hop edition path t m) where
  pub placed : (k : Kind edition path t m) → Placed edition mid (is_joint k) (is_last k)
  placed k = record { valid = valid; changing = changing k; ending = ending k }
    where
      ending : (k : Kind edition path t m) → is_final mid ≡ is_last k
      ending (middle (inner e)) = at_final s h.third h.within false
          (lt-leb (hops path) (start_of path t + m + 1) (omega (arith, before_end path t h.third)))
      ending (middle (over p z e)) = at_final s h.third h.within false
          (lt-leb (hops path) (start_of path t + m + 1) (omega (arith, over_before edition path t p z)))
      ending (last e f) = at_final s h.third h.within true (le-leb (hops path) (start_of path t + m + 1) (omega arith))
      ending (joint p e f) = at_final s h.third h.within false (lt-leb _ _ f)

      changing : (k : Kind edition path t m) → changes edition mid ≡ is_joint k
      changing (middle (inner e)) =
          rw (at_ends s h.third h.within false (ne_eqb _ _ (λ (q : m + 1 ≡ count_of path t). omega arith)))
          (and-false (not (is_peering_hop edition mid)))
      changing (middle (over p z e)) = rw (peer_here s, over_peer edition path t m p z e)
      changing (last e f) =
          rw (at_ends s h.third h.within true (eq-eqb _ _ e), ending (last e f)) (and-false (not (is_peering_hop edition mid)))
      changing (joint p e f) =
          rw (peering_path_here s, p, at_ends s h.third h.within true (eq-eqb _ _ e), ending (joint p e f))

      among : curr_hf mid < hops mid
      among = rw (s.hf, hops_kept s.kept) (omega (arith, before_end path t h.third, h.within))

      inside : curr_inf mid < infos mid
      inside = rw (s.inf, infos_kept s.kept) (in_header path t h.third h.long)

      alone : (peer : Bool) → peering_path edition path ≡ peer → (first : Bool) → eqb m 0 ≡ first → (peer || not (first && ends mid)) ≡ true
      alone true p first e = refl
      alone false p true e =
          rw (at_ends s h.third h.within false (ne_eqb _ _ (λ (q : m + 1 ≡ count_of path t).
          omega (arith, eqb-true m 0 e, h.double p t (omega arith)))))
      alone false p false e = refl

      next : (k : Kind edition path t m) → (not (changes edition mid) || ltb (segment mid + 1) (infos mid)) ≡ true
      next (middle o) = rw (changing (middle o))
      next (last e f) = rw (changing (last e f))
      next (joint p e f) =
          rw (changing (joint p e f), at_segment s h.third h.within, infos_kept s.kept)
          (lt-ltb _ _ (next_in_header path t h.third h.long (omega arith)).1)

      valid : first_no (ingress_place edition mid) ≡ Ok tt
      valid =
          both_yes _ _ _ (lt-ltb _ _ among)
          (both_yes _ _ _ (rw (peering_path_here s, at_starts s h.third h.within)
          (alone (peering_path edition path) refl (eqb m 0) refl))
          (both_yes _ _ _ (eq-eqb _ _ (at_segment s h.third h.within ∙ sym s.inf))
          (both_yes _ _ _ (lt-ltb _ _ inside) (both_yes _ _ _ (next k) (ap first_no (fits_here s) ∙ h.fits)))))

-- ---- what is left to ask at egress

module _ {edition : Edition} {path mid : List ℕ} {t m value : ℕ} (s : Stands edition path mid t m value) (t3 : t < 3) where
  -- on the way on nothing
  pub inside_onward : m < count_of path t → Onward edition path t m → first_no (inside_questions edition mid) ≡ Ok tt
  inside_onward within o =
      both_yes _ _ _ (eq-eqb _ _ (at_segment s t3 within ∙ sym s.inf))
      (both_yes _ _ _ (rw (at_final s t3 within false (before o))) (both_yes _ _ _ (going o) none_asked))
    where
      before : Onward edition path t m → leb (hops path) (start_of path t + m + 1) ≡ false
      before (inner e) = lt-leb (hops path) (start_of path t + m + 1) (omega (arith, before_end path t t3))
      before (over p z e) = lt-leb (hops path) (start_of path t + m + 1) (omega (arith, over_before edition path t p z))

      going : Onward edition path t m → (crosses edition mid || not (ends mid)) ≡ true
      going (inner e) =
          rw (at_ends s t3 within false (ne_eqb _ _ (λ (q : m + 1 ≡ count_of path t). omega arith))) (or-true (crosses edition mid))
      going (over p z e) = rw (crosses_here s, over_crosses edition path t m p z e)

-- the next hop, and the second hop behind a joint
pub hop_ahead : {edition : Edition} {path : List ℕ} {t m : ℕ} → Hop edition path t m → (o : Onward edition path t m)
    → Hop edition path (next_segment o) (next_place o)
hop_ahead {m = m} h (inner e) = record {
  third = h.third;
  long = h.long;
  double = h.double;
  within = e;
  fits = h.fits;
  back = λ p (k : m + 1 ≡ 0). absurd (omega arith);
}
hop_ahead {edition} {path} {t} {m} h (over p z e) = record {
  third = omega arith;
  long = long;
  double = λ q. absurd (false≢true (sym q ∙ p));
  within = long (t + 1) (omega arith);
  fits = h.fits;
  back = λ q k. absurd (false≢true (sym q ∙ second_peer edition path t p z));
}
  where
    long : (u : ℕ) → u ≤ t + 1 → 1 ≤ count_of path u
    long zero l = (peering_lengths edition path p).seg0
    long (suc zero) l = (peering_lengths edition path p).seg1
    long (suc (suc u)) l = absurd (omega arith)

pub one_more : (path : List ℕ) (t n : ℕ) → ((u : ℕ) → u ≤ t → n ≤ count_of path u) → n ≤ count_of path (t + 1)
    → (u : ℕ) → u ≤ t + 1 → n ≤ count_of path u
one_more path t n before new u l = go (eqb u (t + 1)) refl
  where
    go : (same : Bool) → eqb u (t + 1) ≡ same → n ≤ count_of path u
    go true e = rw (eqb-true u (t + 1) e) new
    go false e = before u (omega (arith, eqb-false u (t + 1) e))

pub hop_across : {edition : Edition} {path : List ℕ} {t m : ℕ} → Hop edition path t m → m + 1 ≡ count_of path t
    → start_of path t + m + 1 < hops path → 2 ≤ count_of path (t + 1) → Hop edition path (t + 1) 1
hop_across {edition} {path} {t} {m} h e f two =
    let n = next_in_header path t h.third h.long (omega arith) in
    record {
      third = omega (arith, n.0);
      long = one_more path t 1 h.long (omega arith);
      double = λ p. one_more path t 2 (h.double p) two;
      within = two;
      fits = h.fits;
      back = λ p (k : ◌≡◌ {A = ℕ} 1 0). absurd (omega arith);
    }

-- at the first hop of a segment behind a joint, whether it has a second
module _ {edition : Edition} {path mid : List ℕ} {t value : ℕ} (s : Stands edition path mid (t + 1) 0 value)
    (plain : peering_path edition path ≡ false) (t2 : t < 2) (there : start_of path (t + 1) < hops path) where
  -- an empty segment is passed over
  empty_next : count_of path (t + 1) ≡ 0 → eqb (segment mid) (curr_inf mid) ≡ false
  unfolding hops
  empty_next none =
      rw (s.kept.seg0, s.kept.seg1, s.hf, s.inf) (go t t2 none there)
    where
      go : (t : ℕ) → t < 2 → count_of path (t + 1) ≡ 0 → start_of path (t + 1) < seg0_len path + seg1_len path + seg2_len path
          → eqb (segment_of (seg0_len path) (seg1_len path) (start_of path (t + 1) + 0)) (t + 1) ≡ false
      go zero h none there =
          rw (le-ltb (seg0_len path + 0) (seg0_len path) (omega arith), le-ltb (seg0_len path + 0) (seg0_len path + seg1_len path) (omega arith))
      go (suc zero) h none there = absurd (omega arith)
      go (suc (suc t)) h none there = absurd (omega arith)

  no_crossing : crosses edition mid ≡ false
  no_crossing = rw (peering_path_here s, plain)

  pub inside_first : all_yes (inside_questions edition mid) ≡ leb 2 (count_of path (t + 1))
  unfolding all_yes
  inside_first = go (leb 2 (count_of path (t + 1))) refl
    where
      some : (none : Bool) → eqb (count_of path (t + 1)) 0 ≡ none → count_of path (t + 1) < 2
          → (eqb (segment mid) (curr_inf mid) && (not (is_final mid) && ((crosses edition mid || not (ends mid)) && true))) ≡ false
      some true e short = rw (empty_next (eqb-true _ _ e))
      some false e short =
          let one : count_of path (t + 1) ≡ 1 = omega (arith, eqb-false (count_of path (t + 1)) 0 e) in
          rw (no_crossing, at_ends s (omega arith) (omega arith) true (eq-eqb (0 + 1) (count_of path (t + 1)) (omega arith)))
          (rw (and-false (not (is_final mid))) (and-false (eqb (segment mid) (curr_inf mid))))

      go : (two : Bool) → leb 2 (count_of path (t + 1)) ≡ two
          → (eqb (segment mid) (curr_inf mid) && (not (is_final mid) && ((crosses edition mid || not (ends mid)) && true))) ≡ two
      go true e =
          let two = leb-true 2 (count_of path (t + 1)) e in
          sym (valid_yes (inside_questions edition mid)) ∙ ap is_ok (inside_onward s (omega arith) (omega arith) (inner (omega arith)))
      go false e = some (eqb (count_of path (t + 1)) 0) refl (leb-false 2 (count_of path (t + 1)) e)
