-- The check by parts, and the facts of each hop: the check passes exactly if each hop is good at every reading from earliest to latest.
-- Assumes nothing.
use mathlib.Core.Path.{◌≡◌, refl, sym, subst, ◌∙◌}
use mathlib.Core.Bool.{Bool, true, false, cond, ◌&&◌, ◌||◌, or_assoc, false≢true}
use mathlib.Core.List.{List}
use Prim.Native.Nat.{ℕ, zero, suc, ◌+◌, ◌-◌, ◌≤◌, ◌<◌}
use native.Mathlib.Omega.{arith}
use native.Mathlib.Nat.{le_trans}
use borrow.Author.Tests.{eqb-false, eq-eqb, ne_eqb, le-leb, lt-leb, leb-true, leb-false}
use lib.Dec.{eqb, leb}
use lib.ListN.{length, get_or}
use Rattle.questions.specs.Questions.{all_yes}
use Rattle.octets.proofs.Bools.{both, each_of, each_of_3, each_of_4, first_of, second_of, either, other_of}
use Rattle.fields.specs.Fields.{cons_dir, timestamp, exp_time, travel_ingress, travel_egress, expiry}
use Rattle.standard_path.specs.Header.{infos, hops, info_field}
use Rattle.interface_table.specs.Table.{state_of, pair_allowed}
use Rattle.validator.specs.Check.{key_mac, is_listed, link_of}
use Rattle.edition.specs.declared.Edition.{Edition}
use Rattle.edition.specs.Edition.{peering_path, peering_fits}
use Rattle.station.specs.Station.{Station}
use Rattle.hop_check.specs.Hop.{mac_fits, arrives_by, leaves_by, hop_fits}
use Rattle.segment_check.specs.Segment.{each_below, chained_seg_id, hop_fits_at, segment_fits, peering_hop_of, start_of, count_of, hop_of}
use Rattle.joint_check.specs.Joint.{change_fits}
use Rattle.journey_questions.specs.Lengths.{lengths_pass, shared}
use Rattle.journey.specs.Check.{no_station, station_of, segment_passes, joint_passes, passes}
use Rattle.segment_check.proofs.All.{all_at, all_of, at_most_three}
use Rattle.journey.proofs.Hops.{Onward, inner, over, start_next}
use Rattle.journey.proofs.Laws.{link_good}
use Rattle.journey.proofs.Lengths.{Shape, linked_infos, spare, all_long, all_double, station_among, start_enough, fit_shape, shape_fit}
use Rattle.journey.proofs.Facts.{HopFacts, AllFacts, shared_plain, shared_linked}

-- ---- what is read of a station that 9 lets in

abbrev let_in : Station → List ℕ → List ℕ → Bool
let_in station info hop =
    let into = travel_ingress (cons_dir info) hop in
    (eqb station.arrival 0 || eqb into 0) || eqb into station.arrival

local_let_in : (station : Station) (info hop : List ℕ) → station.arrival ≡ 0 → let_in station info hop ≡ true
local_let_in station info hop e = rw (eq-eqb _ _ e)

arrives_let_in : (station : Station) (info hop : List ℕ) → arrives_by station info hop ≡ true → let_in station info hop ≡ true
unfolding arrives_by
arrives_let_in station info hop e = or_assoc (eqb station.arrival 0) _ _ ∙ either (eqb station.arrival 0) _ (λ outside. e)

let_in_arrives : (station : Station) (info hop : List ℕ) → (station.arrival ≡ 0 → ⊥) → let_in station info hop ≡ true
    → arrives_by station info hop ≡ true
unfolding arrives_by
let_in_arrives station info hop f e = rw (ne_eqb _ _ f) at e

-- one of two tests, by a third
chosen : (b x y : Bool) → b ≡ true → cond b x y ≡ true → x ≡ true
chosen true x y p e = e
chosen false x y p e = absurd (false≢true p)

other : (b x y : Bool) → b ≡ false → cond b x y ≡ true → y ≡ true
other false x y p e = e
other true x y p e = absurd (false≢true (sym p))

choose : (b x y : Bool) → b ≡ true → x ≡ true → cond b x y ≡ true
choose true x y p e = e
choose false x y p e = absurd (false≢true p)

choose_other : (b x y : Bool) → b ≡ false → y ≡ true → cond b x y ≡ true
choose_other false x y p e = e
choose_other true x y p e = absurd (false≢true (sym p))

-- the first segment shares no station
pub shared_first : (edition : Edition) (path : List ℕ) → shared edition path 0 ≡ 0
shared_first edition path = go (peering_path edition path)
  where
    go : (peer : Bool) → cond {A = ℕ} peer 0 0 ≡ 0
    go true = refl
    go false = refl

-- the stations of a call that 23 lets through: as many as it counts, the first reached from local hosts, the others not
pub record Counted (edition : Edition) (path : List ℕ) (stations : List Station) : Type 0 where
  pub many : length stations + spare edition path ≡ hops path + 1
  pub first : (get_or stations 0 no_station).arrival ≡ 0
  pub later : (k : ℕ) → 1 ≤ k → k < length stations → (get_or stations k no_station).arrival ≡ 0 → ⊥

-- the number of the station of hop m of segment t
abbrev station_index : Edition → List ℕ → ℕ → ℕ → ℕ
station_index edition path t m = start_of path t - shared edition path t + m

module _ {edition : Edition} {path : List ℕ} {stations : List Station} (shape : Shape edition path)
    (counted : Counted edition path stations) where
  index_among : (t m : ℕ) → t < infos path → m < count_of path t → station_index edition path t m < length stations
  index_among t m h w =
      omega (arith, counted.many, station_among shape t m h w, start_enough shape t h)

  -- a hop of the facts
  facts_of : (readings : List ℕ) → AllFacts edition path 0 0 stations readings → (t m : ℕ) → t < infos path → m < count_of path t
      → HopFacts edition path (station_of edition stations path t m) (get_or readings (station_index edition path t m) 0) t m
  facts_of readings facts t m h w =
      facts (station_index edition path t m) t m (index_among t m h w) h w (omega (arith, start_enough shape t h, shared_first edition path))

module _ (edition : Edition) (stations : List Station) (earliest latest : ℕ) (path : List ℕ) where
  -- the SegID that hop m of segment t is checked under
  abbrev under_seg_id : ℕ → ℕ → ℕ
  under_seg_id t m = chained_seg_id (peering_hop_of edition path t) (info_field path t) (hop_of path t) m

  -- ---- from the check to the facts

  module _ (e : passes edition stations earliest latest path ≡ true) where
    pub passes_fits : peering_fits edition path ≡ true
    unfolding passes
    passes_fits = first_of (peering_fits edition path) _ e

    parts : (lengths_pass edition path ≡ true) × (each_below (infos path) (segment_passes edition stations earliest latest path) ≡ true)
        × (each_below (infos path - 1) (joint_passes edition stations path) ≡ true)
    unfolding passes
    parts = each_of_3 (lengths_pass edition path) _ _ (second_of (peering_fits edition path) _ e)

    pub passes_shape : Shape edition path
    passes_shape = fit_shape edition path parts.0

    segment_passes_lem : (t : ℕ) → t < infos path → segment_passes edition stations earliest latest path t ≡ true
    segment_passes_lem t h = all_at (infos path) (segment_passes edition stations earliest latest path) parts.1 t h

    joint_passes_lem : (t : ℕ) → t + 1 < infos path → joint_passes edition stations path t ≡ true
    joint_passes_lem t h = all_at (infos path - 1) (joint_passes edition stations path) parts.2 t (omega arith)

    early : (t : ℕ) → t < infos path → timestamp (info_field path t) ≤ earliest
    unfolding segment_passes segment_fits
    early t h = leb-true _ _ (first_of (leb (timestamp (info_field path t)) earliest) _ (segment_passes_lem t h))

    hop_fits_lem : (t m : ℕ) → t < infos path → m < count_of path t
        → hop_fits_at (station_of edition stations path t m) latest (peering_hop_of edition path t) (info_field path t) (hop_of path t) (count_of path t) m
        ≡ true
    unfolding segment_passes segment_fits
    hop_fits_lem t m h w =
        all_at (count_of path t) (λ m. hop_fits_at (station_of edition stations path t m) latest (peering_hop_of edition path t) (info_field path t)
        (hop_of path t) (count_of path t) m)
        (second_of (leb (timestamp (info_field path t)) earliest) _ (segment_passes_lem t h)) m w

    -- the four tests of a hop
    record Fitting (t m : ℕ) : Type 0 where
      late : latest ≤ expiry (timestamp (info_field path t)) (exp_time (hop_of path t m))
      mac : mac_fits (key_mac (station_of edition stations path t m).key) (info_field path t) (hop_of path t m) (under_seg_id t m) ≡ true
      came : 1 ≤ m → arrives_by (station_of edition stations path t m) (info_field path t) (hop_of path t m) ≡ true
      goes : m + 1 < count_of path t → leaves_by (station_of edition stations path t m) (info_field path t) (hop_of path t m) ≡ true

    fitting : (t m : ℕ) → t < infos path → m < count_of path t → Fitting t m
    unfolding hop_fits
    fitting t m h w =
        let station = station_of edition stations path t m in
        let info = info_field path t in
        let held = each_of_4 (leb latest (expiry (timestamp info) (exp_time (hop_of path t m))))
        (mac_fits (key_mac station.key) info (hop_of path t m) (under_seg_id t m))
        (eqb m 0 || arrives_by station info (hop_of path t m)) (leb (count_of path t) (m + 1) || leaves_by station info (hop_of path t m))
        (hop_fits_lem t m h w) in
        record {
          late = leb-true _ _ held.0;
          mac = held.1;
          came = λ k. other_of (eqb m 0) _ (ne_eqb m 0 (λ (q : m ≡ 0). omega arith)) held.2;
          goes = λ k. other_of (leb (count_of path t) (m + 1)) _ (lt-leb _ _ k) held.3;
        }

    -- a joint: over a peering link or at one station, and the second hop's arrival
    joint_parts : (t : ℕ) → t + 1 < infos path
        → (cond (peering_path edition path)
        (leaves_by (station_of edition stations path t (count_of path t - 1)) (info_field path t) (hop_of path t (count_of path t - 1)))
        (change_fits (station_of edition stations path (t + 1) 0) (info_field path t) (hop_of path t (count_of path t - 1))
        (info_field path (t + 1)) (hop_of path (t + 1) 0)) ≡ true)
        × (arrives_by (station_of edition stations path (t + 1) 0) (info_field path (t + 1)) (hop_of path (t + 1) 0) ≡ true)
    unfolding joint_passes
    joint_parts t h = each_of _ _ (joint_passes_lem t h)

    -- at one station
    record Joining (station : Station) (t m : ℕ) : Type 0 where
      listed : is_listed (state_of station.ids station.states (travel_ingress (cons_dir (info_field path t)) (hop_of path t m))) ≡ true
      leads : is_listed (state_of station.ids station.states (travel_egress (cons_dir (info_field path (t + 1))) (hop_of path (t + 1) 0)))
          ≡ true
      allowed : pair_allowed
          (link_of (state_of station.ids station.states (travel_ingress (cons_dir (info_field path t)) (hop_of path t m))))
          (link_of (state_of station.ids station.states (travel_egress (cons_dir (info_field path (t + 1))) (hop_of path (t + 1) 0))))
          ≡ true

    joining : peering_path edition path ≡ false → (t : ℕ) → t + 1 < infos path
        → Joining (station_of edition stations path (t + 1) 0) t (count_of path t - 1)
    unfolding change_fits
    joining plain t h =
        let station = station_of edition stations path (t + 1) 0 in
        let into = state_of station.ids station.states (travel_ingress (cons_dir (info_field path t)) (hop_of path t (count_of path t - 1))) in
        let out = state_of station.ids station.states (travel_egress (cons_dir (info_field path (t + 1))) (hop_of path (t + 1) 0)) in
        let held = each_of_3 (is_listed into) (is_listed out) (pair_allowed (link_of into) (link_of out))
        (other (peering_path edition path) _ _ plain (joint_parts t h).0) in
        record { listed = held.0; leads = held.1; allowed = held.2 }

    module _ (counted : Counted edition path stations) where
      -- 9, at the station of a hop
      abbrev Came : ℕ → ℕ → Type 0
      Came t m = let_in (station_of edition stations path t m) (info_field path t) (hop_of path t m) ≡ true

      came_by : (t m : ℕ) → t < infos path → m < count_of path t → Came t m
      came_by zero zero h w = local_let_in (station_of edition stations path 0 0) (info_field path 0) (hop_of path 0 0)
          (let e : station_index edition path 0 0 ≡ 0 = omega (arith, shared_first edition path) in rw e counted.first)
      came_by (suc t) zero h w =
          let more : t + 1 ≡ suc t = omega arith in
          subst (λ (u : ℕ). Came u 0) more
          (arrives_let_in (station_of edition stations path (t + 1) 0) (info_field path (t + 1)) (hop_of path (t + 1) 0)
          (joint_parts t (omega arith)).1)
      came_by t (suc m) h w =
          arrives_let_in (station_of edition stations path t (suc m)) (info_field path t) (hop_of path t (suc m))
          ((fitting t (suc m) h w).came (omega arith))

      -- 14 to 16, at the station of a segment's last hop
      linked : peering_path edition path ≡ false → (t m : ℕ) → t + 1 < infos path → m + 1 ≡ count_of path t
          → link_good path (station_of edition stations path t m) t m ≡ true
      unfolding all_yes
      linked plain t m h e =
          let shape = passes_shape in
          let long = all_double shape plain (t + 1) h in
          let these = shared_plain edition path plain t in
          let those = shared_plain edition path plain (t + 1) in
          let t3 = at_most_three path (t + 1) h in
          let last : count_of path t - 1 ≡ m = omega arith in
          let here : station_index edition path (t + 1) 0 ≡ station_index edition path t m =
          omega (arith, start_next path t (omega arith), start_enough shape t (omega arith)) in
          let j = joining plain t h in
          subst (λ (n : ℕ). link_good path (station_of edition stations path t m) t n ≡ true) last
          (subst (λ (k : ℕ). link_good path (get_or stations k no_station) t (count_of path t - 1) ≡ true) here
          (both j.listed (both j.leads (both j.allowed refl))))

      goes : (t m : ℕ) → t < infos path → m < count_of path t → Onward edition path t m
          → leaves_by (station_of edition stations path t m) (info_field path t) (hop_of path t m) ≡ true
      goes t m h w (inner k) = (fitting t m h w).goes k
      goes t m h w (over p z k) =
          let last : count_of path t - 1 ≡ m = omega arith in
          subst (λ (n : ℕ). leaves_by (station_of edition stations path t n) (info_field path t) (hop_of path t n) ≡ true) last
          (chosen (peering_path edition path) _ _ p (joint_parts t (omega (arith, linked_infos edition path p))).0)

      pub check_facts : (readings : List ℕ) → ((k : ℕ) → k < length stations → earliest ≤ get_or readings k 0)
          → ((k : ℕ) → k < length stations → get_or readings k 0 ≤ latest) → AllFacts edition path 0 0 stations readings
      unfolding all_yes mac_fits
      check_facts readings low high i t m l h w q =
          let here : station_index edition path t m ≡ i = omega (arith, start_enough passes_shape t h, shared_first edition path) in
          let f = fitting t m h w in
          subst (λ (k : ℕ). HopFacts edition path (get_or stations k no_station) (get_or readings i 0) t m) here
          (record {
            good = both (came_by t m h w)
                (both (le-leb _ _ (le_trans (early t h) (low i l)))
                (both (le-leb _ _ (le_trans (high i l) f.late)) (both f.mac refl)));
            way = goes t m h w;
            link = λ p j k. linked p t m k j;
          })

  -- ---- from the facts at the earliest readings and at the latest to the check

  module _ (shape : Shape edition path) (fits : peering_fits edition path ≡ true) (counted : Counted edition path stations) (early late : List ℕ)
      (low : (k : ℕ) → k < length stations → get_or early k 0 ≤ earliest) (high : (k : ℕ) → k < length stations → latest ≤ get_or late k 0)
      (at-early : AllFacts edition path 0 0 stations early) (at-late : AllFacts edition path 0 0 stations late) where
    -- what 9 to 12 say of a hop
    record Told (reading t m : ℕ) : Type 0 where
      came : let_in (station_of edition stations path t m) (info_field path t) (hop_of path t m) ≡ true
      begun : timestamp (info_field path t) ≤ reading
      alive : reading ≤ expiry (timestamp (info_field path t)) (exp_time (hop_of path t m))
      mac : mac_fits (key_mac (station_of edition stations path t m).key) (info_field path t) (hop_of path t m) (under_seg_id t m) ≡ true

    told : (readings : List ℕ) → AllFacts edition path 0 0 stations readings → (t m : ℕ) → t < infos path → m < count_of path t
        → Told (get_or readings (station_index edition path t m) 0) t m
    unfolding all_yes mac_fits
    told readings facts t m h w =
        let reading = get_or readings (station_index edition path t m) 0 in
        let four = (facts_of shape counted readings facts t m h w).good in
        let three = second_of (let_in (station_of edition stations path t m) (info_field path t) (hop_of path t m)) _ four in
        let two = second_of (leb (timestamp (info_field path t)) reading) _ three in
        let last = second_of (leb reading (expiry (timestamp (info_field path t)) (exp_time (hop_of path t m)))) _ two in
        record {
          came = first_of (let_in (station_of edition stations path t m) (info_field path t) (hop_of path t m)) _ four;
          begun = leb-true _ _ (first_of (leb (timestamp (info_field path t)) reading) _ three);
          alive = leb-true _ _ (first_of (leb reading (expiry (timestamp (info_field path t)) (exp_time (hop_of path t m)))) _ two);
          mac = first_of _ true last;
        }

    -- a station but the first is reached from outside
    from_outside : (t m : ℕ) → t < infos path → m < count_of path t → 1 ≤ station_index edition path t m
        → arrives_by (station_of edition stations path t m) (info_field path t) (hop_of path t m) ≡ true
    from_outside t m h w k =
        let_in_arrives (station_of edition stations path t m) (info_field path t) (hop_of path t m)
        (counted.later (station_index edition path t m) k (index_among shape counted t m h w)) (told early at-early t m h w).came

    hop_passes : (t m : ℕ) → t < infos path → m < count_of path t
        → hop_fits_at (station_of edition stations path t m) latest (peering_hop_of edition path t) (info_field path t) (hop_of path t) (count_of path t) m
        ≡ true
    unfolding hop_fits
    hop_passes t m h w =
        both
        (both
        (both (le-leb _ _ (le_trans (high (station_index edition path t m) (index_among shape counted t m h w))
        (told late at-late t m h w).alive))
        (told early at-early t m h w).mac)
        (either (eqb m 0) _ (λ e. from_outside t m h w (omega (arith, eqb-false m 0 e)))))
        (either (leb (count_of path t) (m + 1)) _ (λ e. (facts_of shape counted early at-early t m h w).way (inner (leb-false _ _ e))))

    segment_good : (t : ℕ) → t < infos path → segment_passes edition stations earliest latest path t ≡ true
    unfolding segment_passes segment_fits
    segment_good t h =
        let long = all_long shape t h in
        let some : 0 < count_of path t = omega arith in
        both
        (le-leb _ _ (le_trans (told early at-early t 0 h some).begun
        (low (station_index edition path t 0) (index_among shape counted t 0 h some))))
        (all_of (count_of path t) _ (λ m w. hop_passes t m h w))

    plain_good : peering_path edition path ≡ false → (t : ℕ) → t + 1 < infos path → joint_passes edition stations path t ≡ true
    unfolding joint_passes change_fits all_yes
    plain_good plain t h =
        let long = all_double shape plain t (omega arith) in
        let long-next = all_double shape plain (t + 1) h in
        let these = shared_plain edition path plain t in
        let those = shared_plain edition path plain (t + 1) in
        let t3 = at_most_three path (t + 1) h in
        let enough = start_enough shape t (omega arith) in
        let next = start_next path t (omega arith) in
        let m = count_of path t - 1 in
        let here : station_index edition path t m ≡ station_index edition path (t + 1) 0 = omega arith in
        let station = station_of edition stations path (t + 1) 0 in
        let into = state_of station.ids station.states (travel_ingress (cons_dir (info_field path t)) (hop_of path t m)) in
        let out = state_of station.ids station.states (travel_egress (cons_dir (info_field path (t + 1))) (hop_of path (t + 1) 0)) in
        let linked : (is_listed into && (is_listed out && (pair_allowed (link_of into) (link_of out) && true))) ≡ true =
        subst (λ (k : ℕ). link_good path (get_or stations k no_station) t m ≡ true) here
        ((facts_of shape counted early at-early t m (omega arith) (omega arith)).link plain (omega arith) h) in
        let from-15 = second_of (is_listed into) _ linked in
        both
        (choose_other (peering_path edition path) _ _ plain
        (both (both (first_of (is_listed into) _ linked) (first_of (is_listed out) _ from-15))
        (first_of _ true (second_of (is_listed out) _ from-15))))
        (from_outside (t + 1) 0 h (omega arith) (omega arith))

    linked_good : peering_path edition path ≡ true → (t : ℕ) → t + 1 < infos path → joint_passes edition stations path t ≡ true
    unfolding joint_passes
    linked_good p t h =
        let two = linked_infos edition path p in
        let long = all_long shape t (omega arith) in
        let long-next = all_long shape (t + 1) h in
        let next = start_next path t (omega arith) in
        let none = shared_linked edition path p (t + 1) in
        let m = count_of path t - 1 in
        both
        (choose (peering_path edition path) _ _ p
        ((facts_of shape counted early at-early t m (omega arith) (omega arith)).way (over p (omega arith) (omega arith))))
        (from_outside (t + 1) 0 h (omega arith) (omega arith))

    joint_good : (t : ℕ) → t + 1 < infos path → joint_passes edition stations path t ≡ true
    joint_good t h = go (peering_path edition path) refl
      where
        go : (peer : Bool) → peering_path edition path ≡ peer → joint_passes edition stations path t ≡ true
        go true p = linked_good p t h
        go false p = plain_good p t h

    pub facts_check : passes edition stations earliest latest path ≡ true
    unfolding passes
    facts_check =
        both fits
        (both (both (shape_fit shape) (all_of (infos path) _ segment_good)) (all_of (infos path - 1) _ (λ t h. joint_good t (omega arith))))
