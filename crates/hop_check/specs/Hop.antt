-- 01, 'Passed exactly if': what is asked of a hop by its bytes, those of its info field, and the station that it goes to.
-- Assumes nothing.
use Rattle.std.specs.Prelude.{ℕ, Bool, ◌&&◌, ◌||◌, List, eqb, leb}
use Rattle.fields.specs.Fields.{cons_dir, timestamp, exp_time, mac_field, travel_ingress, travel_egress, expiry}
use Rattle.interface_table.specs.Table.{state_of}
use Rattle.validator.specs.Check.{MacFunction, mac_number, right_mac, is_up_listed}
use Rattle.station.specs.Station.{Station}

-- 'each MAC is right': the one that a key makes under a SegID
unfoldable pub mac_fits : MacFunction → List ℕ → List ℕ → ℕ → Bool
mac_fits mac info hop under_seg_id = eqb (right_mac mac hop info under_seg_id) (mac_number (mac_field hop))

-- 'the travel ingress .. is 0 or the arrival'
unfoldable pub arrives_by : Station → List ℕ → List ℕ → Bool
arrives_by station info hop =
    eqb (travel_ingress (cons_dir info) hop) 0 || eqb (travel_ingress (cons_dir info) hop) station.arrival

-- 'lists the leaving interface as up'
unfoldable pub leaves_by : Station → List ℕ → List ℕ → Bool
leaves_by station info hop = is_up_listed (state_of station.ids station.states (travel_egress (cons_dir info) hop))

-- a hop of a segment. The arrival at its first hop and the leaving from its last are no matter of the segment
unfoldable pub hop_fits : MacFunction → Station → ℕ → List ℕ → List ℕ → ℕ → Bool → Bool → Bool
hop_fits mac station latest info hop under_seg_id is_first is_last =
    leb latest (expiry (timestamp info) (exp_time hop))
    && mac_fits mac info hop under_seg_id
    && (is_first || arrives_by station info hop)
    && (is_last || leaves_by station info hop)
