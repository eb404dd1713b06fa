-- What the loop along a segment owes: the SegID and the station's record of a hop, each from those of the hop before it.
-- Assumes nothing.
use mathlib.Core.Path.{◌≡◌, refl, ◌∙◌}
use mathlib.Core.Bool.{Bool, true, false, not, cond}
use mathlib.Core.List.{List}
use Prim.Native.Nat.{ℕ, zero, suc, ◌+◌, ◌-◌, ◌≤◌, ◌<◌}
use native.Mathlib.Omega.{arith}
use borrow.Author.Tests.{lt-leb, le-leb}
use native.Mathlib.Numerals.{add-one}
use lib.Dec.{eqb, leb}
use Rattle.std.specs.Int.{from_bool}
use Rattle.aes.specs.ByTable.{round_table}
use Rattle.hop_mac.specs.Mac.{mac_beta_step, mac_chaining_beta}
use Rattle.fields.specs.Fields.{by_direction, cons_dir, seg_id, timestamp, mac_field}
use Rattle.standard_path.specs.Header.{info_field}
use Rattle.edition.specs.declared.Edition.{Edition}
use Rattle.records.specs.Layout.{Layout}
use Rattle.records.specs.Records.{key_of, record_after}
use Rattle.station.specs.Station.{Station, station_at}
use Rattle.hop_check.specs.Hop.{hop_fits}
use Rattle.hop_check.specs.Inner.{key_mac_by}
use Rattle.hop_check.proofs.Lent.{hop_read}
use Rattle.segment_check.specs.Segment.{each_below, macs_from, chained_seg_id, hop_fits_at, segment_fits, count_of, hop_of, peering_hop_of}
use Rattle.segment_check.proofs.Chain.{chain_one_more}
use Rattle.segment_check.proofs.All.{Asked, asked_none}

-- the place of the MAC that goes in: the first one's, and so many on
stepped_place : (info : List ℕ) (m : ℕ) {dir : Bool} {first : ℕ} → dir ≡ cons_dir info → first ≡ from_bool (not dir) → 0 < m
    → first + m - 1 ≡ by_direction (cons_dir info) 0 1 + (m - 1)
stepped_place info m {dir} e f h = rw (f, ← e) (go dir)
  where
    go : (b : Bool) → from_bool (not b) + m - 1 ≡ by_direction b 0 1 + (m - 1)
    go true = omega arith
    go false = omega arith

module _ (peer : ℕ → Bool) (info : List ℕ) (hop : ℕ → List ℕ) where
  chained_none : seg_id info ≡ chained_seg_id peer info hop 0
  unfolding chained_seg_id macs_from mac_chaining_beta
  chained_none = refl

  chained_more : (m : ℕ) {before next stepped : ℕ} {field : List ℕ} → 0 < m → before ≡ chained_seg_id peer info hop (m - 1)
      → stepped ≡ by_direction (cons_dir info) 0 1 + (m - 1) → field ≡ hop stepped
      → next ≡ cond (peer stepped) before (mac_beta_step before (mac_field field))
      → next ≡ chained_seg_id peer info hop m
  chained_more zero h e s f q = absurd (omega arith)
  chained_more (suc m) {before} {next} {stepped} {field} h e s f q =
      let less : suc m - 1 ≡ m = omega arith in
      rw (chain_one_more peer hop info m, ← less, ← e, ← s, ← f) q

  -- by the code's numbers: the hop whose MAC would go in is a peering hop, or it goes in
  module _ (m : ℕ) {before stepped first : ℕ} {dir : Bool} (more : 1 ≤ m) (e : before ≡ chained_seg_id peer info hop (m - 1))
      (d : dir ≡ cons_dir info) (f : first ≡ from_bool (not dir)) (s : stepped ≡ first + m - 1) where
    there : stepped ≡ by_direction (cons_dir info) 0 1 + (m - 1)
    there = s ∙ stepped_place info m d f (omega arith)

    pub chained_past : peer stepped ≡ true → before ≡ chained_seg_id peer info hop m
    chained_past skip = chained_more m (omega arith) e there refl (rw skip refl)

    pub chained_on : {next : ℕ} {mac : List ℕ} → peer stepped ≡ false → mac ≡ mac_field (hop stepped) → next ≡ mac_beta_step before mac
        → next ≡ chained_seg_id peer info hop m
    chained_on take of-hop q = chained_more m (omega arith) e there refl (rw take (rw of-hop at q))

-- ---- a walk along a segment: `done` of its hops have been asked, and the walk stands at the next one

abbrev pub hop_question : Edition → Layout → List ℕ → ℕ → ℕ → List ℕ → ℕ → ℕ → Bool
hop_question edition layout itinerary first latest path segment m =
    hop_fits_at (station_at layout itinerary (record_after layout itinerary first m)) latest (peering_hop_of edition path segment)
    (info_field path segment) (hop_of path segment) (count_of path segment) m

pub record Walked (edition : Edition) (layout : Layout) (itinerary : List ℕ) (first latest : ℕ) (path : List ℕ)
    (segment station segment-id done : ℕ) : Type 0 where
  pub asked : Asked (hop_question edition layout itinerary first latest path segment) (count_of path segment) done
  pub reached : station ≡ record_after layout itinerary first done
  pub chained : segment-id ≡ chained_seg_id (peering_hop_of edition path segment) (info_field path segment) (hop_of path segment) (done - 1)

pub walked_none : (edition : Edition) (layout : Layout) (itinerary : List ℕ) (first latest : ℕ) (path : List ℕ) (segment : ℕ)
    {segment-id : ℕ} → segment-id ≡ seg_id (info_field path segment)
    → Walked edition layout itinerary first latest path segment first segment-id 0
unfolding record_after
walked_none edition layout itinerary first latest path segment e =
    record {
      asked = asked_none _ _;
      reached = refl;
      chained = e
          ∙ chained_none (peering_hop_of edition path segment) (info_field path segment) (hop_of path segment);
    }

-- the answer for the next hop, from what was read of it
pub hop_answered : {edition : Edition} {layout : Layout} {itinerary : List ℕ} {first latest : ℕ} {path : List ℕ}
    {segment station before done : ℕ} → Walked edition layout itinerary first latest path segment station before done
    → {table : List ℕ} → table ≡ round_table → {segment-id count : ℕ} {info field : List ℕ} {answer : Bool}
    → segment-id ≡ chained_seg_id (peering_hop_of edition path segment) (info_field path segment) (hop_of path segment) done
    → info ≡ info_field path segment → field ≡ hop_of path segment done → count ≡ count_of path segment
    → answer
    ≡ hop_fits (key_mac_by table (key_of layout itinerary station)) (station_at layout itinerary station) latest info field segment-id
    (eqb done 0) (leb count (done + 1))
    → answer ≡ hop_question edition layout itinerary first latest path segment done
hop_answered {edition} {layout} {itinerary} {first} {latest} {path} {segment} {station} {before} {done} walked t {segment-id} {count} {info}
    {field} {answer} chained of-info of-hop counted e =
    let read = e ∙ hop_read t layout itinerary station latest info field segment-id (eqb done 0) (leb count (done + 1)) in
    rw (walked.reached, chained, of-info, of-hop, counted) at read

pub record_more : (layout : Layout) (itinerary : List ℕ) (first m : ℕ) {station next : ℕ} → station ≡ record_after layout itinerary first m
    → next ≡ record_after layout itinerary station 1 → next ≡ record_after layout itinerary first (m + 1)
unfolding record_after
record_more layout itinerary first m {station} {next} e q = rw (add-one m, ← e) q

-- ---- the timestamp of a segment, and then each of its hops

module _ (station : ℕ → Station) (earliest latest : ℕ) (peer : ℕ → Bool) (info : List ℕ) (hop : ℕ → List ℕ) (count : ℕ) {start : ℕ}
    (e : start ≡ timestamp info) where
  pub segment_early : earliest < start → false ≡ segment_fits station earliest latest peer info hop count
  unfolding segment_fits
  segment_early h = rw (← e, lt-leb start earliest h)

  pub segment_begun : {answer : Bool} → start ≤ earliest → answer ≡ each_below count (λ m. hop_fits_at (station m) latest peer info hop count m)
      → answer ≡ segment_fits station earliest latest peer info hop count
  unfolding segment_fits
  segment_begun h q = rw (← e, le-leb start earliest h) q
