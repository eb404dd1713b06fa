-- With AES's own round table the MACs are the key's.
-- Assumes nothing.
use mathlib.Core.Path.{◌≡◌, refl, ap}
use mathlib.Core.Bool.{Bool}
use mathlib.Core.List.{List}
use Prim.Native.Nat.{ℕ}
use Rattle.aes.specs.ByTable.{round_table}
use Rattle.validator.specs.Check.{key_mac}
use Rattle.validator.proofs.Schedule.{schedule_law}
use Rattle.records.specs.Layout.{Layout}
use Rattle.records.specs.Records.{key_of}
use Rattle.station.specs.Station.{station_with, station_at}
use Rattle.hop_check.specs.Hop.{hop_fits}
use Rattle.hop_check.specs.Inner.{key_mac_by}

pub hop_read : {table : List ℕ} → table ≡ round_table → (layout : Layout) (itinerary : List ℕ) (index latest : ℕ) (info hop : List ℕ)
    (under_seg_id : ℕ) (is_first is_last : Bool)
    → hop_fits (key_mac_by table (key_of layout itinerary index)) (station_at layout itinerary index) latest info hop under_seg_id is_first is_last
    ≡ hop_fits (key_mac (station_at layout itinerary index).key) (station_at layout itinerary index) latest info hop under_seg_id is_first is_last
unfolding station_with
hop_read p layout itinerary index latest info hop under_seg_id is_first is_last =
    ap (λ mac. hop_fits mac (station_at layout itinerary index) latest info hop under_seg_id is_first is_last)
    (schedule_law (key_of layout itinerary index) p refl refl)
