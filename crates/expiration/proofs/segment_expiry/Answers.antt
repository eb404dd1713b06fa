use mathlib.Core.Path.{◌≡◌, sym, refl, ap, ◌∙◌}
use Prim.Native.Nat.{ℕ, ◌+◌, ◌*◌}
use native.Mathlib.Omega.{arith}
use lib.ListN.{get_or}
use Rattle.std.proofs.Common.{rules}
use Rattle.std.proofs.lemmas.Iterator.{YieldsList-from_map, YieldsList-from_range}
use Rattle.std.proofs.lemmas.Iterator.Adapters.{option_map_id}
use Rattle.std.proofs.lemmas.Iterator.Consumers.{min_from_yields_List}
use Rattle.std.specs.Option.{option_map_or}
use Rattle.fields.specs.Fields.{expiry}
use Rattle.expiration.specs.Expiration.{hop_expiry, segment_expiry}
use Rattle.expiration.specs.Expiration.{least as least_of}
use Rattle.expiration.proofs.Expiry.{least_units, times_same, hop_time}
use Rattle.expiration.proofs.segment_expiry.Goals as goal

pub returns : goal.returns
unfolding segment_expiry
returns c =
    let path = c.args.path.now in
    let segment = c.args.segment in
    let hops = c.hop_fields-hops.result.now in
    let start = c.timestamp-start.result in
    let units : ℕ → ℕ = λ i. get_or hops (12 * i + 1) 0 in
    let least =
    sym (option_map_id _)
    ∙ min_from_yields_List _ _ c.min-least.ensures.ran
    (YieldsList-from_map _ units (YieldsList-from_range 0 _ segment.hop_count c.map.ensures.source (omega arith)) c.map.ensures.closure (λ x r q k. search rules)) in
    let found : c.map_or.result ≡ option_map_or (expiry start) c.min-least.result 4294967295 = search rules in
    let first : segment.first_hop + 0 ≡ segment.first_hop = omega arith in
    let same = times_same (expiry start) units (hop_expiry path segment.info_idx) segment.first_hop segment.hop_count 0 segment.hop_count (omega arith)
    (λ i within. hop_time path segment.info_idx segment.first_hop segment.hop_count i within c.info_field.ensures c.timestamp-start.ensures c.hop_fields-hops.ensures refl) in
    found ∙ ap (λ o. option_map_or (expiry start) o 4294967295) least ∙ least_units start _ ∙ ap least_of (rw first at same)
