use Rattle.records.specs.Layout.{layout_of}
use Rattle.segment_check.proofs.Walked.{Walked}
use Rattle.segment_check.proofs.segments.segment_fits.Given as goal

abbrev pub invariant-loop-hop : goal.invariant-loop-hop
invariant-loop-hop l =
    let j = l.journey in
    Walked j.edition (layout_of j.itinerary.form) j.itinerary.bytes.now l.first j.latest j.path.now l.place l.index l.segment_id l.hop
