use mathlib.Core.Path.{ap, ◌∙◌}
use mathlib.Core.Bool.{Bool}
use Prim.Native.Nat.{ℕ}
use Rattle.std.proofs.Common.{rules, arith}
use Rattle.std.specs.Slice.Iter.{iter_rest}
use Rattle.standard_path.specs.Header.{infos}
use Rattle.records.specs.Layout.{layout_of}
use Rattle.segment_check.specs.Segment.{segment_fits_from}
use Rattle.segment_check.proofs.All.{all_beside}
use Rattle.segment_check.proofs.segments.segments_fit.Goals as goal

pub returns : goal.returns
unfolding infos
returns c =
    let j = c.args.journey in
    let fits : ℕ → ℕ → Bool = λ s first.
    segment_fits_from j.edition (layout_of j.itinerary.form) j.itinerary.bytes.now first j.earliest j.latest j.path.now s in
    rw (← c.info_field_count.ensures)
    (all_beside _ c.info_field_count.result c.all.new.self c.all.result c.args.firsts 0 fits (omega (arith, c.info_field_count.ensures))
    c.zip.ensures.first (ap iter_rest c.zip.ensures.second ∙ c.iter.ensures.rest) c.all.ensures.ran (λ x b q k. search rules))
