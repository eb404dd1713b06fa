-- 01, 'Passed exactly if': what is asked at a segment change, of the last hop of a segment and the first of the next.
-- Assumes nothing.
use Rattle.std.specs.Prelude.{ℕ, Bool, ◌&&◌, List}
use Rattle.fields.specs.Fields.{cons_dir, travel_ingress, travel_egress}
use Rattle.interface_table.specs.Table.{state_of, pair_allowed}
use Rattle.validator.specs.Check.{is_listed, link_of}
use Rattle.station.specs.Station.{Station}

-- 'at a segment change the first hop's travel ingress is listed and the link pair allowed', which only two listed interfaces have
unfoldable pub change_fits : Station → List ℕ → List ℕ → List ℕ → List ℕ → Bool
change_fits station info hop next_info next_hop =
    let into = state_of station.ids station.states (travel_ingress (cons_dir info) hop) in
    let out = state_of station.ids station.states (travel_egress (cons_dir next_info) next_hop) in
    is_listed into && is_listed out && pair_allowed (link_of into) (link_of out)
