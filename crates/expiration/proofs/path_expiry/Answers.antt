use mathlib.Core.Path.{◌≡◌, sym, ap, ◌∙◌}
use mathlib.Core.Bool.{false}
use lib.Dec.{eqb}
use Prim.Native.Nat.{min}
use Rattle.std.proofs.Common.{rules}
use Rattle.std.proofs.lemmas.Iterator.{YieldsList-from_map}
use Rattle.std.proofs.lemmas.Iterator.Consumers.{YieldsList-at, YieldsList-from_first, fold_from_yields_List}
use Rattle.segments.specs.Segments.{segments, segment_count, rest}
use Rattle.segments.proofs.Walk.{rest_started}
use Rattle.expiration.specs.Expiration.{segment_expiry, path_expiry}
use Rattle.expiration.proofs.Expiry.{least_by_fold}
use Rattle.expiration.proofs.path_expiry.Goals as goal

pub returns : goal.returns
unfolding path_expiry
returns c =
    let path = c.args.path in
    let some : eqb (segment_count path.now) 0 ≡ false = sym c.is_empty.ensures ∙ c.if-is_empty.false in
    let walk = YieldsList-from_first (λ x. x) rest (segments path.now) (ap rest c.new.ensures ∙ rest_started path) in
    let least =
    fold_from_yields_List _ min 4294967295 _ c.fold.ensures.ran
    (YieldsList-from_map _ (segment_expiry path.now) (YieldsList-at c.map.ensures.source walk) c.map.ensures.closure (λ x r q k. search rules))
    (λ a x b q k. search rules) in
    rw some (least ∙ least_by_fold path.now)
