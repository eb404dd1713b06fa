use mathlib.Core.Bool.{not}
use mathlib.Core.Path.{◌≡◌, ◌∙◌, ap}
use Prim.Native.Nat.{◌+◌, ◌-◌}
use native.Mathlib.Omega.{arith}
use Rattle.fields.specs.Fields.{seg_id, timestamp}
use Rattle.segment_check.proofs.All.{asked_no, asked_yes, asked_all}
use Rattle.segment_check.proofs.Walked.{walked_none, hop_answered, record_more, segment_begun}
use Rattle.segment_check.proofs.segments.segment_fits.Goals as goal

pub loop-hop-init : goal.loop-hop-init
loop-hop-init c = walked_none _ _ _ _ _ _ _ (c.segment_id-segment_id.ensures ∙ ap seg_id c.info_field-info.ensures)

pub returns-then-not-hop_fits : goal.returns-then-not-hop_fits
returns-then-not-hop_fits c =
    let walked = c.loop-hop.invariant in
    let answered = hop_answered walked c.requires (rw c.new-hop_place.ensures at c.chained_segment_id-segment_id.ensures)
    c.info_field-info.ensures (rw c.new-hop_place.ensures at c.hop_field.ensures) c.hop_count-count.ensures.0 c.hop_fits.ensures in
    segment_begun _ _ _ _ _ _ _ (c.timestamp.ensures ∙ ap timestamp c.info_field-info.ensures) c.if-journey-timestamp.false
    (asked_no walked.asked (omega (arith, c.hop_count-count.ensures.0)) answered (ap not c.if-not-hop_fits.true))

pub loop-hop-preserved : goal.loop-hop-preserved
loop-hop-preserved c =
    let walked = c.loop-hop.invariant in
    let answered = hop_answered walked c.requires (rw c.new-hop_place.ensures at c.chained_segment_id-segment_id.ensures)
    c.info_field-info.ensures (rw c.new-hop_place.ensures at c.hop_field.ensures) c.hop_count-count.ensures.0 c.hop_fits.ensures in
    let less : c.loop-hop.hop + 1 - 1 ≡ c.loop-hop.hop = omega arith in
    record {
      asked = asked_yes walked.asked (omega (arith, c.hop_count-count.ensures.0)) answered (ap not c.if-not-hop_fits.false);
      reached = record_more _ _ _ _ walked.reached c.next_station-index.ensures;
      chained = rw less (rw c.new-hop_place.ensures at c.chained_segment_id-segment_id.ensures);
    }

pub returns : goal.returns
returns c =
    segment_begun _ _ _ _ _ _ _ (c.timestamp.ensures ∙ ap timestamp c.info_field-info.ensures) c.if-journey-timestamp.false
    (asked_all c.loop-hop.invariant.asked (omega (arith, c.hop_count-count.ensures.0)))
