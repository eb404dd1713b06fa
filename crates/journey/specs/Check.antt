-- 01, 'Journey check (added)', 'Passed exactly if': the conditions on a path and the stations that it is to pass. Nothing is moved.
-- By parts: the lengths (journey_questions/specs/Lengths.antt), each segment (segment_check/specs/Segment.antt), each joint, where a
-- segment ends and the next one begins.
-- Assumes nothing.
use Rattle.std.specs.Prelude.{ℕ, ◌+◌, ◌-◌, Bool, ◌&&◌, cond, List, [], get_or}
use Rattle.standard_path.specs.Header.{infos, info_field}
use Rattle.edition.specs.declared.Edition.{Edition}
use Rattle.edition.specs.Edition.{peering_path, peering_fits}
use Rattle.station.specs.Station.{Station}
use Rattle.hop_check.specs.Hop.{arrives_by, leaves_by}
use Rattle.segment_check.specs.Segment.{each_below, start_of, count_of, hop_of, peering_hop_of, segment_fits}
use Rattle.joint_check.specs.Joint.{change_fits}
use Rattle.journey_questions.specs.Lengths.{lengths_pass, shared}

abbrev pub no_station : Station
no_station = record { arrival = 0; key = []; ids = []; states = [] }

-- the station of hop m of segment s: 'one each, but a segment's last hop and the next segment's first go to one station'.
-- Where the lengths fit, each segment before s has a hop or more, so that the subtraction is exact
abbrev pub station_of : Edition → List Station → List ℕ → ℕ → ℕ → Station
station_of edition route path s m = get_or route (start_of path s - shared edition path s + m) no_station

unfoldable pub segment_passes : Edition → List Station → ℕ → ℕ → List ℕ → ℕ → Bool
segment_passes edition route earliest latest path s =
    segment_fits (station_of edition route path s) earliest latest (peering_hop_of edition path s) (info_field path s) (hop_of path s)
    (count_of path s)

-- from segment s, which has a hop, to the next: at one station, or at two, over a peering link (F-6), where the first hop leaves.
-- Either way the second hop's arrival. No clock is read there
unfoldable pub joint_passes : Edition → List Station → List ℕ → ℕ → Bool
joint_passes edition route path s =
    let here = station_of edition route path s (count_of path s - 1) in
    let hop = hop_of path s (count_of path s - 1) in
    let next = station_of edition route path (s + 1) 0 in
    let next_hop = hop_of path (s + 1) 0 in
    cond (peering_path edition path)
    (leaves_by here (info_field path s) hop)
    (change_fits next (info_field path s) hop (info_field path (s + 1)) next_hop)
    && arrives_by next (info_field path (s + 1)) next_hop

-- F-6: 'Its check also demands that 28's rule for P holds'
unfoldable pub passes : Edition → List Station → ℕ → ℕ → List ℕ → Bool
passes edition route earliest latest path =
    peering_fits edition path
    && (lengths_pass edition path
    && each_below (infos path) (segment_passes edition route earliest latest path)
    && each_below (infos path - 1) (joint_passes edition route path))
