-- The stations of a journey that ends well, hop by hop: where the lengths fit, each hop is good at its station, and the other way.
-- Assumes nothing.
use mathlib.Core.Path.{◌≡◌, refl, sym, subst, ◌∙◌}
use mathlib.Core.Bool.{Bool, true, false, cond, false≢true}
use mathlib.Core.List.{List, [], ◌∷◌}
use Prim.Native.Nat.{ℕ, zero, suc, ◌+◌, ◌≤◌, ◌<◌}
use native.Mathlib.Omega.{arith}
use borrow.Author.Tests.{le-leb}
use lib.ListN.{length, get_or}
use Rattle.octets.proofs.Bools.{both, each_of}
use Rattle.standard_path.specs.Header.{infos, hops}
use Rattle.edition.specs.declared.Edition.{Edition}
use Rattle.edition.specs.Edition.{peering_path}
use Rattle.station.specs.Station.{Station}
use Rattle.segment_check.specs.Segment.{start_of, count_of}
use Rattle.segment_check.proofs.All.{at_most_three}
use Rattle.journey_questions.specs.Lengths.{shared}
use Rattle.journey.specs.Check.{no_station}
use Rattle.journey.proofs.Hops.{Hop, Onward, inner, over, over_before, Kind, middle, last, joint, kind, is_last, in_header, start_next, next_in_header}
use Rattle.journey.proofs.Lengths.{Shape, one, two, three, linked, linked_infos, all_double, station_among, last_segment, spare, Enough}
use Rattle.journey.proofs.Laws.{hop_good, link_good, way_good, good, segment_behind, place_behind, crossing}
use Rattle.journey.proofs.Along.{Along, arrive, onward, at_end, hop_behind}

-- ---- two hops at one station: the same, or the two of a joint

data Together (edition : Edition) (path : List ℕ) (t m t' m' : ℕ) : Type 0 where
  same : t ≡ t' → m ≡ m' → Together edition path t m t' m'
  joined : peering_path edition path ≡ false → t + 1 ≡ t' → 0 ≡ m' → m + 1 ≡ count_of path t → Together edition path t m t' m'

together : {edition : Edition} {path : List ℕ} → peering_path edition path ≡ false → ((u : ℕ) → u < infos path → 2 ≤ count_of path u)
    → (t m t' m' : ℕ) → t < 3 → t' < 3
    → t < infos path → t' < infos path → m < count_of path t → m' < count_of path t' → (m ≡ 0 → t ≡ 0)
    → start_of path t + m + t' ≡ start_of path t' + m' + t → Together edition path t m t' m'
together plain long zero m zero m' h h' i i' w w' z e = same refl (omega arith)
together plain long zero m (suc zero) m' h h' i i' w w' z e = joined plain (omega arith) (omega arith) (omega arith)
together plain long zero m (suc (suc zero)) m' h h' i i' w w' z e = absurd (omega (arith, long 1 (omega arith)))
together plain long (suc zero) zero t' m' h h' i i' w w' z e = absurd (omega (arith, z refl))
together plain long (suc zero) (suc m) zero m' h h' i i' w w' z e = absurd (omega arith)
together plain long (suc zero) (suc m) (suc zero) m' h h' i i' w w' z e = same refl (omega arith)
together plain long (suc zero) (suc m) (suc (suc zero)) m' h h' i i' w w' z e = joined plain (omega arith) (omega arith) (omega arith)
together plain long (suc (suc zero)) zero t' m' h h' i i' w w' z e = absurd (omega (arith, z refl))
together plain long (suc (suc zero)) (suc m) zero m' h h' i i' w w' z e = absurd (omega (arith, long 1 (omega arith)))
together plain long (suc (suc zero)) (suc m) (suc zero) m' h h' i i' w w' z e = absurd (omega arith)
together plain long (suc (suc zero)) (suc m) (suc (suc zero)) m' h h' i i' w w' z e = same refl (omega arith)
together plain long (suc (suc (suc t))) m t' m' h h' i i' w w' z e = absurd (omega arith)
together plain long zero m (suc (suc (suc t'))) m' h h' i i' w w' z e = absurd (omega arith)
together plain long (suc zero) (suc m) (suc (suc (suc t'))) m' h h' i i' w w' z e = absurd (omega arith)
together plain long (suc (suc zero)) (suc m) (suc (suc (suc t'))) m' h h' i i' w w' z e = absurd (omega arith)

-- on a peering path only the same
apart : {edition : Edition} {path : List ℕ} (t m t' m' : ℕ) → t < 2 → t' < 2 → m < count_of path t → m' < count_of path t'
    → start_of path t + m ≡ start_of path t' + m' → Together edition path t m t' m'
apart zero m zero m' h h' w w' e = same refl (omega arith)
apart zero m (suc zero) m' h h' w w' e = absurd (omega arith)
apart (suc zero) m zero m' h h' w w' e = absurd (omega arith)
apart (suc zero) m (suc zero) m' h h' w w' e = same refl (omega arith)
apart (suc (suc t)) m t' m' h h' w w' e = absurd (omega arith)
apart zero m (suc (suc t')) m' h h' w w' e = absurd (omega arith)
apart (suc zero) m (suc (suc t')) m' h h' w w' e = absurd (omega arith)

-- ---- what a hop's station finds

pub record HopFacts (edition : Edition) (path : List ℕ) (station : Station) (reading t m : ℕ) : Type 0 where
  pub good : hop_good edition path station reading t m ≡ true
  pub way : Onward edition path t m → way_good path station t m ≡ true
  pub link : peering_path edition path ≡ false → m + 1 ≡ count_of path t → t + 1 < infos path → link_good path station t m ≡ true

-- of all hops behind a place, by their stations; hop m' of segment t' is the matter of the i-th station from there
abbrev pub AllFacts : Edition → List ℕ → ℕ → ℕ → List Station → List ℕ → Type 0
AllFacts edition path t m stations readings =
    (i t' m' : ℕ) → i < length stations → t' < infos path → m' < count_of path t'
    → i + (start_of path t + m) + shared edition path t' ≡ start_of path t' + m' + shared edition path t
    → HopFacts edition path (get_or stations i no_station) (get_or readings i 0) t' m'

facts_at : {edition : Edition} {path : List ℕ} {station : Station} {reading t m t' m' : ℕ} → t ≡ t' → m ≡ m'
    → HopFacts edition path station reading t m → HopFacts edition path station reading t' m'
facts_at {edition} {path} {station} {reading} {t} {m} {t'} {m'} e f facts =
    subst (λ (n : ℕ). HopFacts edition path station reading t' n) f (subst (λ (u : ℕ). HopFacts edition path station reading u m) e facts)

-- the last station finds its hop good
end_good : {edition : Edition} {path : List ℕ} {t m : ℕ} (station : Station) (reading : ℕ) (k : Kind edition path t m) → is_last k ≡ true
    → good k station reading ≡ true → hop_good edition path station reading t m ≡ true
end_good station reading (middle more) l e = absurd (false≢true l)
end_good station reading (last a b) l e = e
end_good station reading (joint plain a b) l e = absurd (false≢true l)

-- ---- the next hop's station is the next

pub shared_plain : (edition : Edition) (path : List ℕ) → peering_path edition path ≡ false → (t : ℕ) → shared edition path t ≡ t
shared_plain edition path p t = rw p

pub shared_linked : (edition : Edition) (path : List ℕ) → peering_path edition path ≡ true → (t : ℕ) → shared edition path t ≡ 0
shared_linked edition path p t = rw p

pub index_behind : {edition : Edition} {path : List ℕ} {t m : ℕ} → Hop edition path t m → (k : Kind edition path t m)
    → start_of path (segment_behind k) + place_behind k + shared edition path t
    ≡ start_of path t + m + 1 + shared edition path (segment_behind k)
index_behind h (middle (inner e)) = omega arith
index_behind {edition} {path} {t} h (middle (over p z e)) =
    omega (arith, start_next path t (omega arith), shared_linked edition path p t, shared_linked edition path p (t + 1))
index_behind h (last a b) = omega arith
index_behind {edition} {path} {t} h (joint plain a b) =
    let n = next_in_header path t h.third h.long (omega arith) in
    omega (arith, start_next path t n.0, shared_plain edition path plain t, shared_plain edition path plain (t + 1))

-- a segment's last hop goes on over the peering link only
not_plain : {edition : Edition} {path : List ℕ} {t m : ℕ} → Onward edition path t m → peering_path edition path ≡ false → m + 1 ≡ count_of path t → ⊥
not_plain (inner e) q j = omega arith
not_plain (over p z e) q j = false≢true (sym q ∙ p)

not_last : {edition : Edition} {path : List ℕ} {t m : ℕ} → Onward edition path t m → m + 1 ≡ count_of path t
    → start_of path t + m + 1 ≡ hops path → ⊥
not_last (inner e) a b = omega arith
not_last {edition} {path} {t} (over p z e) a b = omega (arith, over_before edition path t p z)

module _ {edition : Edition} {path : List ℕ} (shape : Shape edition path) where
  both_at : (t m t' m' : ℕ) → Hop edition path t m → t' < infos path → m' < count_of path t'
      → 0 + (start_of path t + m) + shared edition path t' ≡ start_of path t' + m' + shared edition path t → Together edition path t m t' m'
  both_at t m t' m' h i' w' e = go (peering_path edition path) refl e
    where
      go : (peer : Bool) → peering_path edition path ≡ peer
          → 0 + (start_of path t + m) + cond peer 0 t' ≡ start_of path t' + m' + cond peer 0 t → Together edition path t m t' m'
      go true p q =
          let n = linked_infos edition path p in
          apart t m t' m' (omega (arith, in_header path t h.third h.long)) (omega arith) h.within w' (omega arith)
      go false p q =
          together p (all_double shape p) t m t' m' h.third (at_most_three path t' i') (in_header path t h.third h.long) i'
          h.within w' (h.back (rw p)) (omega arith)

  -- what a station before the last finds
  facts_here : {t m t' m' : ℕ} (station : Station) (reading : ℕ) (k : Kind edition path t m) → is_last k ≡ false
      → good k station reading ≡ true → Together edition path t m t' m' → HopFacts edition path station reading t' m'
  facts_here {t} {m} station reading (middle more) n e (same p q) =
      let tests = each_of (hop_good edition path station reading t m) _ e in
      facts_at p q (record { good = tests.0; way = λ o. tests.1; link = λ c j i. absurd (not_plain more c j) })
  facts_here station reading (middle more) n e (joined c p q j) = absurd (not_plain more c j)
  facts_here station reading (last a b) n e both-here = absurd (false≢true (sym n))
  facts_here {t} {m} station reading (joint plain a b) n e (same p q) =
      let tests = crossing edition path station reading t m e in
      facts_at p q (record { good = tests.here; way = λ o. absurd (not_plain o plain a); link = λ c j i. tests.link })
  facts_here {t} {m} station reading (joint plain a b) n e (joined c p q j) =
      let tests = crossing edition path station reading t m e in
      facts_at p q (record { good = tests.there; way = λ o. tests.way; link = λ c j i. absurd (omega arith) })

  pub along_facts : (t m : ℕ) (stations : List Station) (readings : List ℕ) → Along edition path t m stations readings
      → Hop edition path t m → AllFacts edition path t m stations readings
  along_facts t m [] readings x h i t' m' some i' w' q = elim x [ ]
  along_facts t m (station ∷ stations) [] x h i t' m' some i' w' q = elim x [ ]
  along_facts t m (station ∷ []) (reading ∷ readings) (arrive k l e) h zero t' m' some i' w' q =
      go (both_at t m t' m' h i' w' q)
    where
      end : (m + 1 ≡ count_of path t) × (start_of path t + m + 1 ≡ hops path)
      end = at_end k l

      ending : t + 1 ≡ infos path
      ending = last_segment shape t (in_header path t h.third h.long) (omega (arith, end.0, end.1))

      go : Together edition path t m t' m' → HopFacts edition path station reading t' m'
      go (same p r) =
          facts_at p r (record {
            good = end_good station reading k l e;
            way = λ o. absurd (not_last o end.0 end.1);
            link = λ c j i. absurd (omega (arith, ending));
          })
      go (joined c p r j) = absurd (omega (arith, ending))
  along_facts t m (station ∷ []) (reading ∷ readings) (arrive k l e) h (suc i) t' m' some i' w' q = absurd (omega arith)
  along_facts t m (station ∷ stations) (reading ∷ readings) (onward k n e rest) h zero t' m' some i' w' q =
      facts_here station reading k n e (both_at t m t' m' h i' w' q)
  along_facts t m (station ∷ stations) (reading ∷ readings) (onward k n e rest) h (suc i) t' m' some i' w' q =
      along_facts (segment_behind k) (place_behind k) stations readings rest (hop_behind h k n station reading e) i t' m' (omega arith) i' w'
      (omega (arith, index_behind h k))

  -- ---- the other way

  abbrev Onwards : List Station → List ℕ → Type 0
  Onwards stations readings =
      (t m : ℕ) → Hop edition path t m → Enough edition path t m stations readings → AllFacts edition path t m stations readings
      → Along edition path t m stations readings

  one_on : (station : Station) (stations : List Station) (reading : ℕ) (readings : List ℕ) → Onwards stations readings
      → Onwards (station ∷ stations) (reading ∷ readings)
  one_on station stations reading readings ih t m h left facts = go (kind edition path t m h)
    where
      inside : t < infos path
      inside = in_header path t h.third h.long

      here : HopFacts edition path station reading t m
      here = facts 0 t m (omega arith) inside h.within (omega arith)

      done : (peer : Bool) → t + 1 ≡ infos path → cond peer 1 (infos path) ≡ 1 + cond peer 0 t
      done true e = refl
      done false e = omega arith

      ended : (stations : List Station)
          → length (station ∷ stations) + (start_of path t + m) + spare edition path ≡ hops path + 1 + shared edition path t
          → m + 1 ≡ count_of path t → start_of path t + m + 1 ≡ hops path → Along edition path t m (station ∷ stations) (reading ∷ readings)
      ended [] l a b = arrive (last a b) refl here.good
      ended (next ∷ stations) l a b =
          absurd (omega (arith, done (peering_path edition path) (last_segment shape t inside (omega arith))))

      further : (k : Kind edition path t m) → is_last k ≡ false → good k station reading ≡ true
          → Along edition path t m (station ∷ stations) (reading ∷ readings)
      further k n e =
          let index = index_behind h k in
          onward k n e
          (ih (segment_behind k) (place_behind k) (hop_behind h k n station reading e) (omega (arith, left.0, index), omega (arith, left.1))
          (λ i t' m' l i' w' q. facts (suc i) t' m' (omega arith) i' w' (omega (arith, index))))

      go : Kind edition path t m → Along edition path t m (station ∷ stations) (reading ∷ readings)
      go (middle more) = further (middle more) refl (both here.good (here.way more))
      go (last a b) = ended stations left.0 a b
      go (joint plain a b) =
          let n = next_in_header path t h.third h.long (omega arith) in
          let at = start_next path t n.0 in
          let long = all_double shape plain (t + 1) n.1 in
          let these = shared_plain edition path plain t in
          let those = shared_plain edition path plain (t + 1) in
          let then = facts 0 (t + 1) 0 (omega arith) n.1 (omega arith) (omega arith) in
          further (joint plain a b) refl
          (both (both here.good (both (here.link plain a n.1) then.good))
          (both (then.way (inner (omega arith))) (le-leb _ _ long)))

  pub facts_along : (stations : List Station) (readings : List ℕ) → Onwards stations readings
  facts_along [] readings t m h left facts =
      absurd (omega (arith, left.0, station_among shape t m (in_header path t h.third h.long) h.within))
  facts_along (station ∷ stations) [] t m h left facts = absurd (omega (arith, left.1))
  facts_along (station ∷ stations) (reading ∷ readings) t m h left facts =
      one_on station stations reading readings (facts_along stations readings) t m h left facts

-- ---- a path that arrives has lengths that fit

pub along_shape : {edition : Edition} {path : List ℕ} (t m : ℕ) (stations : List Station) (readings : List ℕ)
    → Along edition path t m stations readings → Hop edition path t m → Shape edition path
unfolding hops
along_shape {edition} {path} t m [] readings x h = elim x [ ]
along_shape {edition} {path} t m (station ∷ stations) [] x h = elim x [ ]
along_shape {edition} {path} t m (station ∷ []) (reading ∷ readings) (arrive k l e) h = peer (peering_path edition path) refl
  where
    go : peering_path edition path ≡ false → (t : ℕ) → t < 3 → ((u : ℕ) → u ≤ t → 2 ≤ count_of path u)
        → start_of path t + count_of path t ≡ hops path
        → Shape edition path
    go p zero k long e = one (long 0 (omega arith)) (omega arith) (omega arith)
    go p (suc zero) k long e = two p (long 0 (omega arith)) (long 1 (omega arith)) (omega arith)
    go p (suc (suc zero)) k long e = three (long 0 (omega arith)) (long 1 (omega arith)) (long 2 (omega arith))
    go p (suc (suc (suc t))) k long e = absurd (omega arith)

    peer : (b : Bool) → peering_path edition path ≡ b → Shape edition path
    peer true p = linked p
    peer false p = go p t h.third (h.double p) (omega (arith, (at_end k l).0, (at_end k l).1))
along_shape t m (station ∷ stations) (reading ∷ readings) (onward k n e rest) h =
    along_shape (segment_behind k) (place_behind k) stations readings rest (hop_behind h k n station reading e)
