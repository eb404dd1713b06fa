-- What questions 2 to 4 and 23 to 25 let through.
-- Assumes nothing.
use mathlib.Core.Path.{◌≡◌, refl}
use mathlib.Core.Bool.{Bool, true, false, cond, not, ◌&&◌}
use mathlib.Core.List.{List, [], ◌∷◌}
use Prim.Native.Nat.{ℕ, zero, suc, ◌+◌, ◌-◌, ◌≤◌, ◌<◌}
use native.Mathlib.Omega.{arith}
use borrow.Author.Tests.{eqb-true, eqb-false, leb-true, not-true}
use lib.Dec.{eqb, leb}
use lib.ListN.{length, get_or}
use Rattle.questions.specs.Questions.{all_yes}
use Rattle.octets.proofs.Bools.{each_of, each_of_3, first_of, second_of}
use Rattle.standard_path.specs.Meta.{curr_inf, curr_hf}
use Rattle.fields.specs.Fields.{cons_ingress_alert, cons_egress_alert}
use Rattle.standard_path.specs.Header.{infos, hops, header_size, hop_field}
use Rattle.interface_table.specs.Table.{table_sound}
use Rattle.edition.specs.declared.Edition.{Edition}
use Rattle.edition.specs.Edition.{peering_path}
use Rattle.records.specs.Layout.{Layout}
use Rattle.station.specs.Station.{Station}
use Rattle.itinerary.specs.Itinerary.{stations, arrivals_fit, tables_sound, plan_fits, itinerary_fits}
use Rattle.soundness.specs.Soundness.{itinerary_sound}
use Rattle.records.proofs.Every.{every_at}
use Rattle.journey.specs.Check.{no_station}
use Rattle.journey_questions.specs.Questions.{station_count, quiet, questions}
use Rattle.journey.proofs.Quiet.{Quiet}
use Rattle.journey.proofs.Steps.{Given}
use Rattle.segment_check.proofs.All.{all_at}
use Rattle.journey.proofs.Parts.{Counted}

pub record Asked (edition : Edition) (path : List ℕ) (stations : List Station) (earliest latest : ℕ) : Type 0 where
  pub given : Given path
  pub counted : Counted edition path stations
  pub sound : (k : ℕ) → k < length stations → table_sound (get_or stations k no_station).ids (get_or stations k no_station).states ≡ true
  pub ordered : earliest ≤ latest
  pub hf : curr_hf path ≡ 0
  pub inf : curr_inf path ≡ 0

first_arrival : (all : List Station) → arrivals_fit all ≡ true → (get_or all 0 no_station).arrival ≡ 0
unfolding arrivals_fit
first_arrival [] e = refl
first_arrival (station ∷ rest) e = eqb-true _ _ (first_of (eqb station.arrival 0) _ e)

later_arrivals : (all : List Station) → arrivals_fit all ≡ true → (k : ℕ) → 1 ≤ k → k < length all → (get_or all k no_station).arrival ≡ 0 → ⊥
unfolding arrivals_fit
later_arrivals [] e k some l = absurd (omega arith)
later_arrivals (station ∷ rest) e zero some l = absurd (omega arith)
later_arrivals (station ∷ rest) e (suc k) some l =
    eqb-false _ _
    (not-true _
    (every_at (λ station. not (eqb station.arrival 0)) rest no_station (second_of (eqb station.arrival 0) _ e) k (omega arith)))

pub infos_few : (path : List ℕ) → infos path ≤ hops path
unfolding infos hops
infos_few path = omega arith

module _ (edition : Edition) (layout : Layout) (itinerary : List ℕ) (earliest latest : ℕ) (path : List ℕ)
    (e : all_yes (questions edition layout itinerary earliest latest path) ≡ true) where
  abbrev all_stations : List Station
  all_stations = stations layout itinerary

  quiet_at : quiet path ≡ true → (j : ℕ) → j < hops path → Quiet (hop_field path j)
  unfolding quiet
  quiet_at q j l =
      let here = all_at (hops path) (λ j. not (cons_ingress_alert (hop_field path j)) && not (cons_egress_alert (hop_field path j))) q j l in
      record {
        into = not-true _ (first_of (not (cons_ingress_alert (hop_field path j))) _ here);
        out = not-true _ (second_of (not (cons_ingress_alert (hop_field path j))) _ here);
      }

  counts : (peer : Bool) → length all_stations ≡ cond peer (hops path) (hops path - infos path + 1)
      → length all_stations + cond peer 1 (infos path) ≡ hops path + 1
  counts true many = omega arith
  counts false many = omega (arith, infos_few path)

  pub asked : Asked edition path all_stations earliest latest
  unfolding all_yes plan_fits itinerary_fits tables_sound
  asked =
      let from-3 = second_of (leb 4 (length path)) _ e in
      let from-4 = second_of (leb (header_size path) (length path)) _ from-3 in
      let from-23 = second_of (leb (hops path) 64) _ from-4 in
      let from-24 = second_of (itinerary_fits layout itinerary (station_count edition path) && leb earliest latest) _ from-23 in
      let from-25 = second_of (eqb (curr_hf path) 0 && eqb (curr_inf path) 0) _ from-24 in
      let plan = first_of (itinerary_fits layout itinerary (station_count edition path) && leb earliest latest) _ from-23 in
      let place = first_of (eqb (curr_hf path) 0 && eqb (curr_inf path) 0) _ from-24 in
      let fits = each_of (plan_fits layout itinerary) _ (first_of (itinerary_fits layout itinerary (station_count edition path)) _ plan) in
      let held = each_of_3 (itinerary_sound layout itinerary) (tables_sound all_stations) (arrivals_fit all_stations) fits.0 in
      let many : length all_stations ≡ station_count edition path = eqb-true _ _ fits.1 in
      record {
        given = record {
          room = leb-true _ _ (first_of (leb (header_size path) (length path)) _ from-3);
          few = leb-true _ _ (first_of (leb (hops path) 64) _ from-4);
          quiet = quiet_at (first_of (quiet path) true from-25);
        };
        counted = record {
          many = counts (peering_path edition path) many;
          first = first_arrival all_stations held.2;
          later = later_arrivals all_stations held.2;
        };
        sound = every_at (λ station. table_sound station.ids station.states) all_stations no_station held.1;
        ordered = leb-true _ _ (second_of (itinerary_fits layout itinerary (station_count edition path)) _ plan);
        hf = eqb-true _ _ (first_of (eqb (curr_hf path) 0) _ place);
        inf = eqb-true _ _ (second_of (eqb (curr_hf path) 0) _ place);
      }
