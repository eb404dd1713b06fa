-- A journey over the stations left is well ended exactly if each of them finds its hops good.
-- Assumes nothing.
use mathlib.Core.Path.{◌≡◌, refl, sym, ◌∙◌}
use mathlib.Core.Bool.{Bool, true, false, not, ◌&&◌, and-false, and-true, false≢true}
use mathlib.Core.List.{List, [], ◌∷◌}
use Prim.Native.Nat.{ℕ, suc, ◌+◌, ◌≤◌, ◌<◌}
use native.Mathlib.Omega.{arith}
use borrow.Author.Tests.{eq-eqb, ne_eqb, not-true}
use lib.ListN.{length}
use Rattle.octets.proofs.Bools.{both, each_of}
use Rattle.standard_path.specs.Header.{hops}
use Rattle.edition.specs.declared.Edition.{Edition}
use Rattle.station.specs.Station.{Station}
use Rattle.segment_check.specs.Segment.{start_of, count_of}
use Rattle.journey.specs.Journey.{StationStep, goes_on, some_left, or_ends, journey, delivers, ended_well}
use Rattle.journey.proofs.Stands.{Stands, arriving_seg_id}
use Rattle.journey.proofs.Hops.{Hop, inner, over, start_next, Kind, middle, last, joint, kind, is_last, hop_ahead, hop_across}
use Rattle.journey.proofs.Steps.{Given, Reached}
use Rattle.journey.proofs.Laws.{good, segment_behind, place_behind, Laws, crossing}

-- ---- the stations left, and their readings, find the hops good

module _ (edition : Edition) (path : List ℕ) where
  pub data Along : ℕ → ℕ → List Station → List ℕ → Type 0 where
    arrive : {t m : ℕ} {station : Station} {reading : ℕ} {readings : List ℕ} (k : Kind edition path t m)
        → is_last k ≡ true → good k station reading ≡ true → Along t m (station ∷ []) (reading ∷ readings)
    onward : {t m : ℕ} {station : Station} {stations : List Station} {reading : ℕ} {readings : List ℕ} (k : Kind edition path t m)
        → is_last k ≡ false → good k station reading ≡ true → Along (segment_behind k) (place_behind k) stations readings
        → Along t m (station ∷ stations) (reading ∷ readings)

-- ---- all stations left

-- the first of them at hop j, the others behind the path's first hop
abbrev pub AllReached : ℕ → List Station → Type 0
AllReached j [] = Unit {0}
AllReached j (station ∷ stations) = Reached station j × AllReached 1 stations

pub reached_later : (stations : List Station) (j : ℕ) → 1 ≤ j → AllReached 1 stations → AllReached j stations
reached_later [] j some all = tt
reached_later (station ∷ stations) j some all = (
  record { sound = all.0.sound; local = λ (e : j ≡ 0). absurd (omega arith); outside = λ l. all.0.outside (omega arith) },
  all.1,
)

-- the last hop of all
pub at_end : {edition : Edition} {path : List ℕ} {t m : ℕ} (k : Kind edition path t m) → is_last k ≡ true
    → (m + 1 ≡ count_of path t) × (start_of path t + m + 1 ≡ hops path)
at_end (middle more) l = absurd (false≢true l)
at_end (last a b) l = (a, b)
at_end (joint plain a b) l = absurd (false≢true l)

-- the next station's hop, which is not the path's first
pub hop_behind : {edition : Edition} {path : List ℕ} {t m : ℕ} → Hop edition path t m → (k : Kind edition path t m) → is_last k ≡ false
    → (station : Station) (reading : ℕ) → good k station reading ≡ true → Hop edition path (segment_behind k) (place_behind k)
hop_behind h (middle more) n station reading e = hop_ahead h more
hop_behind h (last a b) n station reading e = absurd (false≢true (sym n))
hop_behind {edition} {path} {t} {m} h (joint plain a b) n station reading e =
    hop_across h a b (crossing edition path station reading t m e).two

pub later_behind : {edition : Edition} {path : List ℕ} {t m : ℕ} → Hop edition path t m → (k : Kind edition path t m)
    → 1 ≤ start_of path (segment_behind k) + place_behind k
later_behind h (middle (inner e)) = omega arith
later_behind {path = path} {t = t} h (middle (over p z e)) = omega (arith, start_next path t (omega arith))
later_behind h (last a b) = omega arith
later_behind h (joint plain a b) = omega arith

-- what well ended is at a station
module _ (at : StationStep) where
  pub well_last : (k : ℕ) (station : Station) (reading : ℕ) (readings mid : List ℕ)
      → ended_well (k + 1) (journey at k (station ∷ []) (reading ∷ readings) mid) ≡ delivers (at station reading mid).answer
  unfolding ended_well journey
  well_last k station reading readings mid =
      let e : suc k ≡ k + 1 = omega arith in
      rw (and-false (goes_on (at station reading mid).answer), eq-eqb (suc k) (k + 1) e)

  pub well_more : (k n : ℕ) (station next : Station) (stations : List Station) (reading : ℕ) (readings mid : List ℕ) → suc k < n
      → ended_well n (journey at k (station ∷ next ∷ stations) (reading ∷ readings) mid)
      ≡ (goes_on (at station reading mid).answer
      && ended_well n (journey at (suc k) (next ∷ stations) readings (at station reading mid).bytes))
  unfolding ended_well journey
  well_more k n station next stations reading readings mid l =
      rw (and-true (goes_on (at station reading mid).answer)) (go (goes_on (at station reading mid).answer))
    where
      go : (on : Bool)
          → ended_well n (or_ends on k (at station reading mid)
          (journey at (suc k) (next ∷ stations) readings (at station reading mid).bytes))
          ≡ (on && ended_well n (journey at (suc k) (next ∷ stations) readings (at station reading mid).bytes))
      go true = refl
      go false = rw (ne_eqb (suc k) n (λ (e : suc k ≡ n). omega arith))

-- ---- the journey, and the hops

module _ {edition : Edition} {at : StationStep} (laws : Laws edition at) {path : List ℕ} (g : Given path) where
  -- of the stations left: if well ended, then along
  abbrev pub WellAlong : List Station → List ℕ → ℕ → Type 0
  WellAlong stations readings k =
      (t m : ℕ) (mid : List ℕ) → Stands edition path mid t m (arriving_seg_id edition path t m) → Hop edition path t m
      → AllReached (start_of path t + m) stations
      → ended_well (k + length stations) (journey at k stations readings mid) ≡ true → Along edition path t m stations readings

  well_one : (station : Station) (reading : ℕ) (readings : List ℕ) (k : ℕ) → WellAlong (station ∷ []) (reading ∷ readings) k
  well_one station reading readings k t m mid s h all e =
      let c = kind edition path t m h in
      let said = laws.answered g s h all.0 reading c in
      let tests = each_of (is_last c) (good c station reading)
      (sym said.delivered ∙ sym (well_last at k station reading readings mid) ∙ e) in
      arrive c tests.0 tests.1

  well_next : (station next : Station) (stations : List Station) (reading : ℕ) (readings : List ℕ) (k : ℕ)
      → WellAlong (next ∷ stations) readings (suc k) → WellAlong (station ∷ next ∷ stations) (reading ∷ readings) k
  well_next station next stations reading readings k ih t m mid s h all e =
      let n = k + length (station ∷ next ∷ stations) in
      let c = kind edition path t m h in
      let said = laws.answered g s h all.0 reading c in
      let both-well = each_of (goes_on (at station reading mid).answer) _
      (sym (well_more at k n station next stations reading readings mid (omega arith)) ∙ e) in
      let tests = each_of (not (is_last c)) (good c station reading) (sym said.on ∙ both-well.0) in
      let count : suc k + length (next ∷ stations) ≡ n = omega arith in
      let not_last = not-true (is_last c) tests.0 in
      onward c not_last tests.1
      (ih (segment_behind c) (place_behind c) _ (said.left both-well.0) (hop_behind h c not_last station reading tests.1)
      (reached_later (next ∷ stations) _ (later_behind h c) all.1) (rw count both-well.1))

  pub well_along : (stations : List Station) (readings : List ℕ) (k : ℕ) → WellAlong stations readings k
  unfolding ended_well journey
  well_along [] readings k t m mid s h all e = absurd (false≢true e)
  well_along (station ∷ stations) [] k t m mid s h all e = absurd (false≢true e)
  well_along (station ∷ []) (reading ∷ readings) k t m mid s h all e = well_one station reading readings k t m mid s h all e
  well_along (station ∷ next ∷ stations) (reading ∷ readings) k t m mid s h all e =
      well_next station next stations reading readings k (well_along (next ∷ stations) readings (suc k)) t m mid s h all e

  -- and the other way
  some_station : {t m : ℕ} {stations : List Station} {readings : List ℕ} → Along edition path t m stations readings
      → some_left stations ≡ true
  some_station (arrive c l e) = refl
  some_station (onward c n e rest) = refl

  pub along_well : (stations : List Station) (readings : List ℕ) (k t m : ℕ) (mid : List ℕ)
      → Stands edition path mid t m (arriving_seg_id edition path t m) → Hop edition path t m → AllReached (start_of path t + m) stations
      → Along edition path t m stations readings
      → ended_well (k + length stations) (journey at k stations readings mid) ≡ true
  along_well [] readings k t m mid s h all x = elim x [ ]
  along_well (station ∷ []) [] k t m mid s h all x = elim x [ ]
  along_well (station ∷ (next ∷ stations)) [] k t m mid s h all x = elim x [ ]
  along_well (station ∷ []) (reading ∷ readings) k t m mid s h all (arrive c l e) =
      well_last at k station reading readings mid ∙ (laws.answered g s h all.0 reading c).delivered ∙ rw (l, e)
  along_well (station ∷ []) (reading ∷ readings) k t m mid s h all (onward c n e rest) = absurd (false≢true (some_station rest))
  along_well (station ∷ next ∷ stations) (reading ∷ readings) k t m mid s h all (onward c n e rest) =
      let count : k + length (station ∷ next ∷ stations) ≡ suc k + length (next ∷ stations) = omega arith in
      let said = laws.answered g s h all.0 reading c in
      let on : goes_on (at station reading mid).answer ≡ true = said.on ∙ rw (n, e) in
      well_more at k (k + length (station ∷ next ∷ stations)) station next stations reading readings mid (omega arith)
      ∙ both on
      (rw count
      (along_well (next ∷ stations) readings (suc k) (segment_behind c) (place_behind c) _ (said.left on)
      (hop_behind h c n station reading e) (reached_later (next ∷ stations) _ (later_behind h c) all.1) rest))
