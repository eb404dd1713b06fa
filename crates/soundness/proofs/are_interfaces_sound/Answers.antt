use mathlib.Core.Path.{◌≡◌, sym, ap, ◌∙◌}
use borrow.Author.Tests.{tests}
use lib.Dec.{eqb}
use Rattle.std.specs.Option.{option_eq}
use Rattle.std.specs.Prelude.{Some}
use Rattle.std.proofs.Common.{rules}
use Rattle.records.specs.Layout.{layout_of}
use Rattle.records.specs.Records.{first_interface_of, first_station}
use Rattle.records.specs.Chain.{records_left}
use Rattle.soundness.proofs.Merge.{drop_below, is_first, held, held_next, first_held, tested, skipped_on, skipped_over}
use Rattle.soundness.proofs.Merge.{merged_start, merged_over, merged_unsound, merged_found, merged_on}
use Rattle.soundness.proofs.are_interfaces_sound.Goals as goal
use Rattle.soundness.proofs.are_interfaces_sound.Goals.{After-eq, then-is_some_and, else-is_some_and}

pub loop-index-init : goal.loop-index-init
loop-index-init c =
    let itinerary = c.args.itinerary in
    let layout = layout_of itinerary.form in
    let limits = c.args.limits in
    merged_start layout itinerary.bytes.now limits.stations (first_station layout itinerary.bytes.now) limits.table (first_interface_of layout itinerary.bytes.now c.args.station)
    _ _ c.requires (held_next _ _ _ c.next-reached.ensures.steps ∙ c.station_records_within-stations.ensures)
    (ap records_left c.into_iter-index-iterator.ensures.into_iter_gives ∙ c.table_records_within-index-items.ensures)

pub returns-then-not-is_next_sound-are_interface_zeros_sound : goal.returns-then-not-is_next_sound-are_interface_zeros_sound
returns-then-not-is_next_sound-are_interface_zeros_sound c =
    merged_unsound c.loop-index.invariant c.in-Some.ensures.steps
    (rw (← c.is_next_sound.ensures, ← c.are_interface_zeros_sound.ensures) c.if-not-is_next_sound-are_interface_zeros_sound.true)

-- what is held of the stations, after those below the index are skipped
skipped : (c : After-eq) → held c.if-is_some_and.reached (records_left c.if-is_some_and.stations)
    ≡ drop_below c.in-Some.index (held c.loop-index.reached (records_left c.loop-index.stations))
skipped c =
    let loop = c.loop-index in
    let index = c.in-Some.index in
    let passed = held loop.reached (records_left loop.stations) in
    let below = tested index passed loop.reached c.is_some_and.result (first_held loop.reached (records_left loop.stations)) c.is_some_and.ensures (λ x k. search (rules, tests)) in
    elim c.if-is_some_and.branch [
      | then-is_some_and w ↦ rw (w.reached-is, w.stations-is)
          (skipped_on index _ (λ x b q k. search (rules, tests)) w.find-reached.new.self loop.stations loop.reached w.find-reached.result
          (sym below ∙ w.if-is_some_and.true) w.find-reached.ensures.ran)
      | else-is_some_and w ↦ rw (w.reached-is, w.stations-is) (skipped_over index passed (sym below ∙ w.if-is_some_and.false))
    ]

is_reached : (c : After-eq) → c.eq.result ≡ is_first (held c.if-is_some_and.reached (records_left c.if-is_some_and.stations)) c.in-Some.index
is_reached c = c.eq.ensures ∙ ap (λ first. option_eq eqb first (Some c.in-Some.index)) (first_held c.if-is_some_and.reached (records_left c.if-is_some_and.stations))

pub returns-then-eq : goal.returns-then-eq
returns-then-eq c =
    let here = (goal.at.returns-then-eq c).After-eq in
    merged_found c.loop-index.invariant c.in-Some.ensures.steps (skipped here) (sym (is_reached here) ∙ c.if-eq.true)

pub loop-index-preserved : goal.loop-index-preserved
loop-index-preserved c =
    let here = (goal.at.loop-index-preserved c).After-eq in
    merged_on c.loop-index.invariant c.in-Some.ensures.steps (skipped here) (sym (is_reached here) ∙ c.if-eq.false)
    (rw (← c.is_next_sound.ensures, ← c.are_interface_zeros_sound.ensures) c.if-not-is_next_sound-are_interface_zeros_sound.false)

pub returns : goal.returns
returns c = merged_over c.loop-index.invariant c.in-None.ensures.steps.0
