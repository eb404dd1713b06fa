-- A journey that 23 to 25 let begin arrives, or a station stops it with one of the refusals of Stops.antt.
-- Assumes nothing.
use mathlib.Core.Path.{◌≡◌, refl, ◌∙◌}
use mathlib.Core.Bool.{Bool, true, false, cond, and-false, false≢true}
use mathlib.Core.List.{List, [], ◌∷◌}
use mathlib.Core.Logic.{◌⊎◌, inl, inr}
use Prim.Native.Nat.{ℕ, suc, ◌+◌}
use native.Mathlib.Omega.{arith}
use lib.Dec.{eqb}
use lib.ListN.{length}
use Rattle.standard_path.specs.Header.{infos, hops}
use Rattle.edition.specs.declared.Edition.{Edition}
use Rattle.edition.specs.Edition.{peering_path}
use Rattle.station.specs.Station.{Station}
use Rattle.segment_check.specs.Segment.{start_of}
use Rattle.journey.specs.Journey.{StationStep, Ended, nowhere, ended_at, goes_on, journey, ended_well}
use Rattle.journey.proofs.Stands.{Stands, arriving_seg_id}
use Rattle.journey.proofs.Hops.{Hop, Kind, kind, is_last, in_header}
use Rattle.journey.proofs.Lengths.{hops_enough, Enough}
use Rattle.journey.proofs.Steps.{Given}
use Rattle.journey.proofs.Stops.{stop_numbers, refused_with, refused_stays, refused_undelivered}
use Rattle.journey.proofs.Laws.{good, segment_behind, place_behind, Answered, Laws}
use Rattle.journey.proofs.Along.{AllReached, reached_later, at_end, hop_behind, later_behind, well_last}
use Rattle.journey.proofs.Facts.{index_behind}

abbrev pub stopped : Edition → Ended → Bool
stopped edition nowhere = false
stopped edition (ended_at k answer left) = refused_with (stop_numbers edition) answer

-- stopped, it is not well ended
pub stopped_unwell : (edition : Edition) (count : ℕ) (ended : Ended) → stopped edition ended ≡ true → ended_well count ended ≡ false
unfolding ended_well
stopped_unwell edition count nowhere e = absurd (false≢true e)
stopped_unwell edition count (ended_at k answer left) e =
    rw (refused_undelivered (stop_numbers edition) answer e) (and-false (eqb (suc k) count))

-- a refusal ends the journey
pub stops_here : (edition : Edition) (at : StationStep) (k : ℕ) (station : Station) (stations : List Station) (reading : ℕ)
    (readings mid : List ℕ)
    → refused_with (stop_numbers edition) (at station reading mid).answer ≡ true
    → stopped edition (journey at k (station ∷ stations) (reading ∷ readings) mid) ≡ true
unfolding journey
stops_here edition at k station stations reading readings mid e =
    rw (refused_stays (stop_numbers edition) (at station reading mid).answer e) e

-- and a forward leads to the next station
pub goes_further : (at : StationStep) (k : ℕ) (station next : Station) (stations : List Station) (reading : ℕ) (readings mid : List ℕ)
    → goes_on (at station reading mid).answer ≡ true
    → journey at k (station ∷ next ∷ stations) (reading ∷ readings) mid
    ≡ journey at (suc k) (next ∷ stations) readings (at station reading mid).bytes
unfolding journey
goes_further at k station next stations reading readings mid on = rw on

-- it ends well at the last of so many stations, or is stopped
abbrev pub Ends : Edition → ℕ → Ended → Type 0
Ends edition count ended = (ended_well count ended ≡ true) ⊎ (stopped edition ended ≡ true)

module _ {edition : Edition} {at : StationStep} (laws : Laws edition at) {path : List ℕ} (g : Given path) where
  abbrev EndsFrom : List Station → List ℕ → ℕ → Type 0
  EndsFrom stations readings k =
      (t m : ℕ) (mid : List ℕ) → Stands edition path mid t m (arriving_seg_id edition path t m) → Hop edition path t m
      → AllReached (start_of path t + m) stations
      → Enough edition path t m stations readings → Ends edition (k + length stations) (journey at k stations readings mid)

  ends_one : (station : Station) (reading : ℕ) (readings : List ℕ) (k : ℕ) → EndsFrom (station ∷ []) (reading ∷ readings) k
  ends_one station reading readings k t m mid s h all enough = go (is_last c) refl (good c station reading) refl
    where
      c : Kind edition path t m
      c = kind edition path t m h

      said : Answered edition path t m c station reading (at station reading mid)
      said = laws.answered g s h all.0 reading c

      go : (end : Bool) → is_last c ≡ end → (fine : Bool) → good c station reading ≡ fine
          → Ends edition (k + length (station ∷ [])) (journey at k (station ∷ []) (reading ∷ readings) mid)
      go end l false e = inr (stops_here edition at k station [] reading readings mid (said.refused e))
      go true l true e = inl (well_last at k station reading readings mid ∙ said.delivered ∙ rw (l, e))
      go false l true e =
          let next = hop_behind h c l station reading e in
          let room = hops_enough edition path (segment_behind c) (place_behind c) next.third next.within in
          absurd (omega (arith, enough.0, index_behind h c))

  ends_next : (station next : Station) (stations : List Station) (reading : ℕ) (readings : List ℕ) (k : ℕ)
      → EndsFrom (next ∷ stations) readings (suc k) → EndsFrom (station ∷ next ∷ stations) (reading ∷ readings) k
  ends_next station next stations reading readings k ih t m mid s h all enough = go (is_last c) refl (good c station reading) refl
    where
      c : Kind edition path t m
      c = kind edition path t m h

      said : Answered edition path t m c station reading (at station reading mid)
      said = laws.answered g s h all.0 reading c

      too_many : (peer : Bool)
          → length (station ∷ next ∷ stations) + (start_of path t + m) + cond peer 1 (infos path) ≡ hops path + 1 + cond peer 0 t
          → start_of path t + m + 1 ≡ hops path → ⊥
      too_many true q f = omega arith
      too_many false q f = omega (arith, in_header path t h.third h.long)

      go : (end : Bool) → is_last c ≡ end → (fine : Bool) → good c station reading ≡ fine
          → Ends edition (k + length (station ∷ next ∷ stations)) (journey at k (station ∷ next ∷ stations) (reading ∷ readings) mid)
      go end l false e = inr (stops_here edition at k station (next ∷ stations) reading readings mid (said.refused e))
      go true l true e = absurd (too_many (peering_path edition path) enough.0 (at_end c l).1)
      go false l true e =
          let on : goes_on (at station reading mid).answer ≡ true = said.on ∙ rw (l, e) in
          let count : k + length (station ∷ next ∷ stations) ≡ suc k + length (next ∷ stations) = omega arith in
          rw (goes_further at k station next stations reading readings mid on, count)
          (ih (segment_behind c) (place_behind c) (at station reading mid).bytes (said.left on) (hop_behind h c l station reading e)
          (reached_later (next ∷ stations) _ (later_behind h c) all.1)
          (omega (arith, enough.0, index_behind h c), omega (arith, enough.1)))

  pub ends_from : (stations : List Station) (readings : List ℕ) (k : ℕ) → EndsFrom stations readings k
  ends_from [] readings k t m mid s h all enough = absurd (omega (arith, enough.0, hops_enough edition path t m h.third h.within))
  ends_from (station ∷ stations) [] k t m mid s h all enough = absurd (omega (arith, enough.1))
  ends_from (station ∷ []) (reading ∷ readings) k t m mid s h all enough = ends_one station reading readings k t m mid s h all enough
  ends_from (station ∷ next ∷ stations) (reading ∷ readings) k t m mid s h all enough =
      ends_next station next stations reading readings k (ends_from (next ∷ stations) readings (suc k)) t m mid s h all enough
