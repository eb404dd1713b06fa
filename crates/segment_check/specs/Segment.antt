-- 01, 'Passed exactly if': what is asked of a segment of a path, one station for each hop.
-- Assumes nothing.
use Rattle.std.specs.Prelude.{ℕ, zero, suc, ◌+◌, Bool, true, ◌&&◌, cond, List, [], ◌∷◌, eqb, leb}
use Rattle.hop_mac.specs.Mac.{mac_chaining_beta}
use Rattle.fields.specs.Fields.{by_direction, cons_dir, seg_id, timestamp, mac_field}
use Rattle.standard_path.specs.Meta.{seg0_len, seg1_len, seg2_len}
use Rattle.standard_path.specs.Header.{info_field, hop_field, segment_start}
use Rattle.validator.specs.Check.{key_mac}
use Rattle.edition.specs.declared.Edition.{Edition}
use Rattle.edition.specs.Edition.{peering_hop}
use Rattle.records.specs.Layout.{Layout}
use Rattle.records.specs.Records.{record_after}
use Rattle.station.specs.Station.{Station, station_at}
use Rattle.hop_check.specs.Hop.{hop_fits}

-- whether it holds of each number below n
unfoldable pub each_below : ℕ → (ℕ → Bool) → Bool
each_below zero holds = true
each_below (suc n) holds = each_below n holds && holds n

-- ---- a segment: which of its hops are peering hops, its info field, its hop fields by their place in it, how many they are, and the
-- stations that they go to

-- the MACs of n hops, from one on, 'no peering hop's' among them
unfoldable pub macs_from : (ℕ → Bool) → (ℕ → List ℕ) → ℕ → ℕ → List (List ℕ)
macs_from peer hop first zero = []
macs_from peer hop first (suc n) =
    cond (peer first) (macs_from peer hop (suc first) n) (mac_field (hop first) ∷ macs_from peer hop (suc first) n)

-- 'SegID S xor the two-byte heads of that segment's earlier MACs (C set), or of its MACs after the first up to its own (C clear)'
unfoldable pub chained_seg_id : (ℕ → Bool) → List ℕ → (ℕ → List ℕ) → ℕ → ℕ
chained_seg_id peer info hop m = mac_chaining_beta (seg_id info) (macs_from peer hop (by_direction (cons_dir info) 0 1) m)

-- hop m, its MAC 'under its station's key'
abbrev pub hop_fits_at : Station → ℕ → (ℕ → Bool) → List ℕ → (ℕ → List ℕ) → ℕ → ℕ → Bool
hop_fits_at station latest peer info hop count m =
    hop_fits (key_mac station.key) station latest info (hop m) (chained_seg_id peer info hop m) (eqb m 0) (leb count (m + 1))

unfoldable pub segment_fits : (ℕ → Station) → ℕ → ℕ → (ℕ → Bool) → List ℕ → (ℕ → List ℕ) → ℕ → Bool
segment_fits station earliest latest peer info hop count =
    leb (timestamp info) earliest && each_below count (λ m. hop_fits_at (station m) latest peer info hop count m)

-- ---- where it is in a path

-- where segment s starts among the hops, and how many hops it has
abbrev pub start_of : List ℕ → ℕ → ℕ
start_of path s = segment_start (seg0_len path) (seg1_len path) s

abbrev pub count_of : List ℕ → ℕ → ℕ
count_of path s = cond (eqb s 0) (seg0_len path) (cond (eqb s 1) (seg1_len path) (seg2_len path))

-- hop m of segment s
abbrev pub hop_of : List ℕ → ℕ → ℕ → List ℕ
hop_of path s m = hop_field path (start_of path s + m)

-- whether it is a peering hop
abbrev pub peering_hop_of : Edition → List ℕ → ℕ → ℕ → Bool
peering_hop_of edition path s m = peering_hop edition path (start_of path s + m)

-- segment s at the stations from a record of the itinerary on
abbrev pub segment_fits_from : Edition → Layout → List ℕ → ℕ → ℕ → ℕ → List ℕ → ℕ → Bool
segment_fits_from edition layout itinerary first earliest latest path s =
    segment_fits (λ m. station_at layout itinerary (record_after layout itinerary first m)) earliest latest (peering_hop_of edition path s)
    (info_field path s) (hop_of path s) (count_of path s)
