-- Demand 3: of each call that 2 to 4 and 23 to 25 let through, the check passes exactly if the path travels.
-- Assumes nothing.
use mathlib.Core.Path.{◌≡◌, refl, sym, ◌∙◌}
use mathlib.Core.Bool.{Bool, true, false, cond, false≢true}
use mathlib.Core.List.{List, [], ◌∷◌}
use mathlib.Core.Logic.{◌↔◌, ◌⊎◌, inl, inr, ⊎_elim}
use Prim.Native.Nat.{ℕ, suc, ◌+◌, ◌≤◌, ◌<◌}
use native.Mathlib.Omega.{arith}
use lib.ListN.{length, get_or, replicate, length-replicate, get_or-replicate}
use Rattle.std.specs.Prelude.{Result, Ok, Err}
use Rattle.questions.proofs.Asked.{asks_yes}
use Rattle.hop_mac.specs.Mac.{mac_chaining_beta}
use Rattle.fields.specs.Fields.{cons_dir, seg_id}
use Rattle.standard_path.specs.Header.{info_field}
use Rattle.standard_path.proofs.Kept.{kept_self}
use Rattle.interface_table.specs.Table.{table_sound}
use Rattle.moves.proofs.Touched.{same_info}
use Rattle.edition.specs.declared.Edition.{Edition}
use Rattle.records.specs.Layout.{Layout}
use Rattle.station.specs.Station.{Station}
use Rattle.itinerary.specs.Itinerary.{stations}
use Rattle.journey_questions.specs.declared.answer.JourneyError.{JourneyError}
use Rattle.journey_questions.specs.declared.answer.Verdict.{Verdict}
use Rattle.journey_questions.specs.declared.answer.Verdict.TheVariants.{Passed, NotPassed}
use Rattle.segment_check.specs.Segment.{chained_seg_id, macs_from}
use Rattle.journey.specs.Check.{no_station, passes}
use Rattle.journey.specs.Journey.{StationStep, journey, ended_well, arrives, Readings, Travels}
use Rattle.journey.specs.Verdict.{Demand3}
use Rattle.journey_questions.specs.Questions.{questions}
use Rattle.journey.specs.Verdict.{journey_check}
use Rattle.journey.proofs.Stands.{Stands, arriving_seg_id}
use Rattle.edition.proofs.Peering.{fits_valid, valid_fits}
use Rattle.journey.proofs.Hops.{Hop}
use Rattle.journey.proofs.Along.{Along, AllReached, well_along, along_well}
use Rattle.journey.proofs.Laws.{Laws}
use Rattle.journey.proofs.AtStation.{at_station}
use Rattle.journey.proofs.Lengths.{Shape, first_of_shape}
use Rattle.journey.proofs.Facts.{AllFacts, along_facts, facts_along, along_shape}
use Rattle.journey.proofs.Parts.{shared_first, passes_fits, passes_shape, check_facts, facts_check}
use Rattle.journey.proofs.Ends.{stopped, stopped_unwell, stops_here}
use Rattle.journey.proofs.LetThrough.{Asked, asked}

module _ {edition : Edition} {path : List ℕ} {stations : List Station} {earliest latest : ℕ}
    (a : Asked edition path stations earliest latest) where
  -- the path stands at its first hop
  pub starts : Stands edition path path 0 0 (arriving_seg_id edition path 0 0)
  unfolding chained_seg_id macs_from mac_chaining_beta
  starts = record {
    kept = kept_self path;
    inf = a.inf;
    hf = a.hf;
    hop_same = λ j. refl;
    info_same = λ i. same_info refl;
    seg = go (cons_dir (info_field path 0));
    later = λ i l. refl;
    earlier = λ (i : ℕ) (l : i < 0). absurd (omega arith);
  }
    where
      go : (c : Bool) → seg_id (info_field path 0) ≡ cond c (seg_id (info_field path 0)) (seg_id (info_field path 0))
      go true = refl
      go false = refl

  -- every station is reached as the check's premises have it
  later_reached : (rest : List Station)
      → ((k : ℕ) → k < length rest → table_sound (get_or rest k no_station).ids (get_or rest k no_station).states ≡ true)
      → ((k : ℕ) → k < length rest → (get_or rest k no_station).arrival ≡ 0 → ⊥) → AllReached 1 rest
  later_reached [] sound outside = tt
  later_reached (station ∷ rest) sound outside = (
    record { sound = sound 0 (omega arith); local = λ (e : ◌≡◌ {A = ℕ} 1 0). absurd (omega arith); outside = λ l. outside 0 (omega arith) },
    later_reached rest (λ k l. sound (suc k) (omega arith)) (λ k l. outside (suc k) (omega arith)),
  )

  all_reached : (all : List Station)
      → ((k : ℕ) → k < length all → table_sound (get_or all k no_station).ids (get_or all k no_station).states ≡ true)
      → (get_or all 0 no_station).arrival ≡ 0 → ((k : ℕ) → 1 ≤ k → k < length all → (get_or all k no_station).arrival ≡ 0 → ⊥) → AllReached 0 all
  all_reached [] sound first later = tt
  all_reached (station ∷ rest) sound first later = (
    record { sound = sound 0 (omega arith); local = λ e. first; outside = λ (l : 1 ≤ 0). absurd (omega arith) },
    later_reached rest (λ k l. sound (suc k) (omega arith)) (λ k l. later (suc k) (omega arith) (omega arith)),
  )

  pub reached : AllReached 0 stations
  reached = all_reached stations a.sound a.counted.first a.counted.later

module _ {edition : Edition} {at : StationStep} (laws : Laws edition at) {path : List ℕ} {stations : List Station} {earliest latest : ℕ}
    (a : Asked edition path stations earliest latest) where
  -- ---- a path that is not in order at its first hop is stopped there

  abbrev Sound : List Station → Type 0
  Sound all = (k : ℕ) → k < length all → table_sound (get_or all k no_station).ids (get_or all k no_station).states ≡ true

  pub first_or_stopped : (all : List Station) (readings : List ℕ) → Sound all → 1 ≤ length all → 1 ≤ length readings
      → Hop edition path 0 0 ⊎ (stopped edition (journey at 0 all readings path) ≡ true)
  first_or_stopped [] readings sound some read = absurd (omega arith)
  first_or_stopped (station ∷ rest) [] sound some read = absurd (omega arith)
  first_or_stopped (station ∷ rest) (reading ∷ readings) sound some read =
      ⊎_elim inl (λ e. inr (stops_here edition at 0 station rest reading readings path e))
      (laws.first path station reading a.given a.hf a.inf (sound 0 (omega arith)))

  arrives_first : (all : List Station) (readings : List ℕ) → Sound all
      → ended_well (0 + length all) (journey at 0 all readings path) ≡ true → Hop edition path 0 0
  unfolding ended_well journey
  arrives_first [] readings sound e = absurd (false≢true e)
  arrives_first (station ∷ rest) [] sound e = absurd (false≢true e)
  arrives_first (station ∷ rest) (reading ∷ readings) sound e =
      ⊎_elim (λ h. h)
      (λ s. absurd (false≢true (sym (stopped_unwell edition _ (journey at 0 (station ∷ rest) (reading ∷ readings) path) s) ∙ e)))
      (first_or_stopped (station ∷ rest) (reading ∷ readings) sound (omega arith) (omega arith))

  -- ---- what the readings find

  abbrev well : List ℕ → Type 0
  well readings = ended_well (0 + length stations) (journey at 0 stations readings path) ≡ true

  arrives_well : (readings : List ℕ) → arrives at stations readings path ≡ true → well readings
  unfolding arrives
  arrives_well readings e = let q : 0 + length stations ≡ length stations = omega arith in rw q e

  well_arrives : (readings : List ℕ) → well readings → arrives at stations readings path ≡ true
  unfolding arrives
  well_arrives readings e = let q : length stations ≡ 0 + length stations = omega arith in rw q e

  found : (readings : List ℕ) → arrives at stations readings path ≡ true → Along edition path 0 0 stations readings
  found readings e =
      let w = arrives_well readings e in
      well_along laws a.given stations readings 0 0 0 path (starts a) (arrives_first stations readings a.sound w) (reached a) w

  shape_of : (readings : List ℕ) → arrives at stations readings path ≡ true → Shape edition path
  shape_of readings e =
      along_shape 0 0 stations readings (found readings e) (arrives_first stations readings a.sound (arrives_well readings e))

  facts : (readings : List ℕ) → arrives at stations readings path ≡ true → AllFacts edition path 0 0 stations readings
  facts readings e =
      along_facts (shape_of readings e) 0 0 stations readings (found readings e)
      (arrives_first stations readings a.sound (arrives_well readings e))

  -- two runs decide it: every clock at the earliest reading, and every clock at the latest
  pub two_runs : arrives at stations (replicate (length stations) earliest) path ≡ true
      → arrives at stations (replicate (length stations) latest) path ≡ true → passes edition stations earliest latest path ≡ true
  two_runs early late =
      facts_check edition stations earliest latest path (shape_of _ early)
      (valid_fits edition path (arrives_first stations _ a.sound (arrives_well _ early)).fits) a.counted
      (replicate (length stations) earliest) (replicate (length stations) latest)
      (λ k l. rw (get_or-replicate (length stations) k earliest 0 l) (omega arith))
      (λ k l. rw (get_or-replicate (length stations) k latest 0 l) (omega arith))
      (facts _ early) (facts _ late)

  constant : (reading : ℕ) → earliest ≤ reading → reading ≤ latest → Readings stations earliest latest (replicate (length stations) reading)
  constant reading low high =
      let n = length stations in
      let e : length (replicate n reading) ≡ n = length-replicate n reading in
      record {
        each = e;
        from = λ k l. rw (get_or-replicate n k reading 0 (omega (arith, e))) low;
        to = λ k l. rw (get_or-replicate n k reading 0 (omega (arith, e))) high;
      }

  passes_travels : passes edition stations earliest latest path ≡ true → Travels at stations earliest latest path
  unfolding Travels
  passes_travels e readings r =
      let shape = passes_shape edition stations earliest latest path e in
      let first = first_of_shape shape (fits_valid edition path (passes_fits edition stations earliest latest path e)) in
      let each : length readings ≡ length stations = r.each in
      let all-facts = check_facts edition stations earliest latest path e a.counted readings
      (λ k l. r.from k (omega arith)) (λ k l. r.to k (omega arith)) in
      well_arrives readings
      (along_well laws a.given stations readings 0 0 0 path (starts a) first (reached a)
      (facts_along shape stations readings 0 0 first (omega (arith, a.counted.many, shared_first edition path), each) all-facts))

  travels_passes : Travels at stations earliest latest path → passes edition stations earliest latest path ≡ true
  unfolding Travels
  travels_passes t =
      two_runs (t _ (constant earliest (omega arith) a.ordered)) (t _ (constant latest a.ordered (omega arith)))

  pub check_travels : (passes edition stations earliest latest path ≡ true) ↔ Travels at stations earliest latest path
  check_travels = (passes_travels, travels_passes)

-- ---- the theorem

pub demand_3 : (edition : Edition) (layout : Layout) (itinerary : List ℕ) (earliest latest : ℕ) (path : List ℕ)
    → Demand3 edition layout itinerary earliest latest path (journey_check edition layout itinerary earliest latest path)
unfolding Demand3 journey_check
demand_3 edition layout itinerary earliest latest path e =
    let verdict = asks_yes Err (questions edition layout itinerary earliest latest path)
    (Ok (cond (passes edition (stations layout itinerary) earliest latest path) Passed NotPassed)) e in
    let theorem = check_travels (at_station edition) (asked edition layout itinerary earliest latest path e) in (
      (λ q. theorem.0 (passed_is (passes edition (stations layout itinerary) earliest latest path) (sym verdict ∙ q))),
      (λ t. verdict ∙ rw (theorem.1 t)),
    )
  where
    passed_is : (b : Bool) → ◌≡◌ {A = Result Verdict JourneyError} (Ok (cond b Passed NotPassed)) (Ok Passed) → b ≡ true
    passed_is true q = refl
    passed_is false q = absurd cc
