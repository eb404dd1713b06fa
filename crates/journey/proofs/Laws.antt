-- What a journey's proof takes of the step at a station: which tests its answer takes at each kind of hop, and where the path then stands.
-- AtStation.antt shows it of `step_at`; Along.antt and what builds on it speak of any step with these laws.
-- Assumes nothing.
use mathlib.Core.Path.{◌≡◌}
use mathlib.Core.Bool.{Bool, true, false, not, ◌&&◌}
use mathlib.Core.List.{List}
use mathlib.Core.Logic.{◌⊎◌}
use Prim.Native.Nat.{ℕ, ◌+◌, ◌≤◌}
use borrow.Author.Tests.{leb-true}
use lib.Dec.{leb}
use Rattle.questions.specs.Questions.{all_yes}
use Rattle.octets.proofs.Bools.{each_of}
use Rattle.standard_path.specs.Meta.{curr_inf, curr_hf}
use Rattle.standard_path.specs.Header.{info_field}
use Rattle.interface_table.specs.Table.{table_sound}
use Rattle.answers.specs.Answer.{StepAnswer}
use Rattle.answers.specs.Outcome.{Outcome}
use Rattle.edition.specs.declared.Edition.{Edition}
use Rattle.station.specs.Station.{Station}
use Rattle.hop_check.specs.Hop.{leaves_by}
use Rattle.segment_check.specs.Segment.{start_of, count_of, hop_of}
use Rattle.journey.specs.Journey.{StationStep, goes_on, delivers}
use Rattle.journey.proofs.Stands.{Stands, arriving_seg_id}
use Rattle.journey.proofs.Hops.{Hop, next_segment, next_place, Kind, middle, last, joint, is_last}
use Rattle.journey.proofs.Steps.{Given, Reached, hop_tests, link_tests}
use Rattle.journey.proofs.Stops.{stop_numbers, refused_with}

-- ---- what is tested

module _ (path : List ℕ) where
  -- 14 to 16
  abbrev pub link_good : Station → ℕ → ℕ → Bool
  link_good station t m = all_yes (link_tests path station t m)

  -- 15 and 17
  abbrev pub way_good : Station → ℕ → ℕ → Bool
  way_good station t m = leaves_by station (info_field path t) (hop_of path t m)

module _ (edition : Edition) (path : List ℕ) where
  -- 9 to 12
  abbrev pub hop_good : Station → ℕ → ℕ → ℕ → Bool
  hop_good station reading t m = all_yes (hop_tests edition path station reading t m)

  -- all that is checked at a segment change
  abbrev pub change_good : Station → ℕ → ℕ → ℕ → Bool
  change_good station reading t m = hop_good station reading t m && (link_good path station t m && hop_good station reading (t + 1) 0)

-- all that is asked at a station; at a segment change also whether there is a second hop behind it
abbrev pub good : {edition : Edition} {path : List ℕ} {t m : ℕ} → Kind edition path t m → Station → ℕ → Bool
good {edition} {path} {t} {m} (middle more) station reading = hop_good edition path station reading t m && way_good path station t m
good {edition} {path} {t} {m} (last a b) station reading = hop_good edition path station reading t m
good {edition} {path} {t} {m} (joint plain a b) station reading =
    change_good edition path station reading t m && (way_good path station (t + 1) 0 && leb 2 (count_of path (t + 1)))

-- the place of the next station's hop; behind the last hop there is none
abbrev pub segment_behind : {edition : Edition} {path : List ℕ} {t m : ℕ} → Kind edition path t m → ℕ
segment_behind (middle more) = next_segment more
segment_behind {t = t} (last a b) = t
segment_behind {t = t} (joint plain a b) = t + 1

abbrev pub place_behind : {edition : Edition} {path : List ℕ} {t m : ℕ} → Kind edition path t m → ℕ
place_behind (middle more) = next_place more
place_behind {m = m} (last a b) = m + 1
place_behind (joint plain a b) = 1

-- ---- the laws

-- of what a station's step comes to, on a path that stands at a hop of this kind
pub record Answered (edition : Edition) (path : List ℕ) (t m : ℕ) (k : Kind edition path t m) (station : Station) (reading : ℕ)
    (outcome : Outcome StepAnswer) : Type 0 where
  pub on : goes_on outcome.answer ≡ (not (is_last k) && good k station reading)
  pub delivered : delivers outcome.answer ≡ (is_last k && good k station reading)
  pub refused : good k station reading ≡ false → refused_with (stop_numbers edition) outcome.answer ≡ true
  pub left : goes_on outcome.answer ≡ true
      → Stands edition path outcome.bytes (segment_behind k) (place_behind k)
      (arriving_seg_id edition path (segment_behind k) (place_behind k))

pub record Laws (edition : Edition) (at : StationStep) : Type 0 where
  -- the path as given: it can stand at its first hop, or it is refused there
  pub first : (path : List ℕ) (station : Station) (reading : ℕ) → Given path → curr_hf path ≡ 0 → curr_inf path ≡ 0
      → table_sound station.ids station.states ≡ true
      → Hop edition path 0 0 ⊎ (refused_with (stop_numbers edition) (at station reading path).answer ≡ true)
  pub answered : {path mid : List ℕ} {t m : ℕ} → Given path → Stands edition path mid t m (arriving_seg_id edition path t m)
      → Hop edition path t m → {station : Station} → Reached station (start_of path t + m) → (reading : ℕ) (k : Kind edition path t m)
      → Answered edition path t m k station reading (at station reading mid)

-- ---- the tests of a segment change one by one

module _ (edition : Edition) (path : List ℕ) (station : Station) (reading t m : ℕ) where
  pub record Crossing : Type 0 where
    pub here : hop_good edition path station reading t m ≡ true
    pub link : link_good path station t m ≡ true
    pub there : hop_good edition path station reading (t + 1) 0 ≡ true
    pub way : way_good path station (t + 1) 0 ≡ true
    pub two : 2 ≤ count_of path (t + 1)

  pub crossing : (change_good edition path station reading t m && (way_good path station (t + 1) 0 && leb 2 (count_of path (t + 1)))) ≡ true
      → Crossing
  crossing e =
      let all = each_of (change_good edition path station reading t m) _ e in
      let checks = each_of (hop_good edition path station reading t m) _ all.0 in
      let second = each_of (link_good path station t m) _ checks.1 in
      let out = each_of (way_good path station (t + 1) 0) _ all.1 in
      record { here = checks.0; link = second.0; there = second.1; way = out.0; two = leb-true 2 (count_of path (t + 1)) out.1 }
