-- For the contracts of inner functions: the joint behind segment s, the next segment's first hop at the station with this record.
-- `joint_passes` (journey/specs/Check.antt) says the same of a list of stations.
-- Assumes nothing.
use Rattle.std.specs.Prelude.{ℕ, ◌+◌, ◌-◌, Bool, ◌&&◌, cond, List, get_or}
use Rattle.standard_path.specs.Header.{info_field}
use Rattle.edition.specs.declared.Edition.{Edition}
use Rattle.edition.specs.Edition.{peering_path}
use Rattle.records.specs.Layout.{Layout}
use Rattle.records.specs.Records.{station_records}
use Rattle.station.specs.Station.{station_at}
use Rattle.hop_check.specs.Hop.{arrives_by, leaves_by}
use Rattle.segment_check.specs.Segment.{start_of, count_of, hop_of}
use Rattle.joint_check.specs.Joint.{change_fits}

abbrev pub joint_fits_from : Edition → Layout → List ℕ → ℕ → List ℕ → ℕ → Bool
joint_fits_from edition layout itinerary first path s =
    let here = station_at layout itinerary (get_or (station_records layout itinerary) (start_of path s + (count_of path s - 1)) 0) in
    let hop = hop_of path s (count_of path s - 1) in
    let next = station_at layout itinerary first in
    let next_hop = hop_of path (s + 1) 0 in
    cond (peering_path edition path)
    (leaves_by here (info_field path s) hop)
    (change_fits next (info_field path s) hop (info_field path (s + 1)) next_hop)
    && arrives_by next (info_field path (s + 1)) next_hop
