-- F-6: where the second edition is the first. On a path that is no peering path and keeps 28's rule, so on each path without P, the journey
-- and the check give the same.
-- Assumes nothing.
use mathlib.Core.Path.{◌≡◌, refl, ap}
use mathlib.Core.Bool.{Bool, false, ◌&&◌, ◌||◌, cond}
use mathlib.Core.List.{List, [], ◌∷◌}
use Prim.Native.Nat.{ℕ, suc, ◌+◌, ◌-◌}
use lib.Dec.{eqb}
use lib.ListN.{get_or}
use Rattle.standard_path.specs.Meta.{seg0_len}
use Rattle.standard_path.specs.Header.{infos, info_field}
use Rattle.edition.specs.declared.Edition.TheVariants.{First, Second}
use Rattle.edition.proofs.Peering.{Plain, plain_kept}
use Rattle.validator.specs.Check.{key_mac}
use Rattle.routing.proofs.Moved.{step_holds}
use Rattle.routing_laws.proofs.Editions.{step_agrees}
use Rattle.records.specs.Layout.{Layout}
use Rattle.station.specs.Station.{Station}
use Rattle.segment_check.specs.Segment.{start_of, count_of, hop_of, segment_fits}
use Rattle.journey.specs.Check.{no_station, segment_passes, joint_passes, passes}
use Rattle.journey.specs.Verdict.{journey_check}
use Rattle.segment_check.proofs.All.{all_same}
use Rattle.journey.specs.Journey.{step_at, goes_on, some_left, or_ends, journey}

pub journey_agrees : (k : ℕ) (stations : List Station) (readings path : List ℕ) → Plain path
    → journey (step_at Second) k stations readings path ≡ journey (step_at First) k stations readings path
unfolding journey step_at
journey_agrees k [] readings path plain = refl
journey_agrees k (station ∷ stations) [] path plain = refl
journey_agrees k (station ∷ stations) (reading ∷ readings) path plain =
    let held = step_holds First station.ids station.states (key_mac station.key) station.arrival reading false path in
    let outcome = step_at First station reading path in
    rw (step_agrees station.ids station.states (key_mac station.key) station.arrival reading false path plain)
    (ap (or_ends (goes_on outcome.answer && some_left stations) k outcome)
    (journey_agrees (suc k) stations readings outcome.bytes (plain_kept held.kept held.flags plain)))

module _ (stations : List Station) (path : List ℕ) (plain : Plain path) where
  segment_agrees : (earliest latest s : ℕ)
      → segment_passes Second stations earliest latest path s ≡ segment_passes First stations earliest latest path s
  unfolding segment_passes
  segment_agrees earliest latest s =
      ap
      (λ (peers : Bool).
      segment_fits (λ m. get_or stations (start_of path s - cond peers 0 s + m) no_station) earliest latest
      (λ m. peers && (eqb (start_of path s + m + 1) (seg0_len path) || eqb (start_of path s + m) (seg0_len path)))
      (info_field path s) (hop_of path s) (count_of path s))
      plain.none

  joint_agrees : (s : ℕ) → joint_passes Second stations path s ≡ joint_passes First stations path s
  unfolding joint_passes
  joint_agrees s = rw plain.none

  pub passes_agrees : (earliest latest : ℕ) → passes Second stations earliest latest path ≡ passes First stations earliest latest path
  unfolding passes
  passes_agrees earliest latest =
      rw (plain.placed, plain.none, all_same (infos path) _ _ (λ s h. segment_agrees earliest latest s), all_same (infos path - 1) _ _ (λ s h. joint_agrees s))

pub check_agrees : (layout : Layout) (itinerary : List ℕ) (earliest latest : ℕ) (path : List ℕ) → Plain path
    → journey_check Second layout itinerary earliest latest path ≡ journey_check First layout itinerary earliest latest path
unfolding journey_check
check_agrees layout itinerary earliest latest path plain =
    rw (plain.none, passes_agrees _ path plain earliest latest)
