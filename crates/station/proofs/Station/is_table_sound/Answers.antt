use mathlib.Core.Path.{sym, ap, ◌∙◌}
use mathlib.Core.Logic.{inl}
use native.Mathlib.Omega.{arith}
use lib.ListN.{length}
use Rattle.std.specs.Iterator.Adapters.{enumerate_source, enumerate_count}
use Rattle.records.specs.Layout.{layout_of}
use Rattle.records.specs.Records.{first_interface_of}
use Rattle.records.specs.Chain.{records_left}
use Rattle.records.proofs.Walks.{chain_short}
use Rattle.station.specs.Station.{station_with}
use Rattle.station.proofs.Walks.{entered_none, entered_all, entered_many, entered_low, entered_state}
use Rattle.station.proofs.Station.is_table_sound.Goals as goal
use Rattle.station.proofs.Station.is_table_sound.Goals.{then-entries-eq-MAX_ENTRIES-via-then-entries-eq-MAX_ENTRIES, then-entries-eq-MAX_ENTRIES-via-else-entries-eq-MAX_ENTRIES+then-number-lowest}

pub loop-entries-init-derived : goal.loop-entries-init-derived
loop-entries-init-derived c =
    let itinerary = c.args.self.itinerary in
    let layout = layout_of itinerary.form in
    let same = c.into_iter-entries-iterator.ensures.into_iter_gives in
    let none = ap enumerate_count same ∙ c.enumerate-entries-items.ensures.count in
    let whole = ap (λ s. length (records_left (enumerate_source s))) same ∙ ap (λ t. length (records_left t)) c.enumerate-entries-items.ensures.source ∙ ap length c.table_records_within.ensures in
    let short = chain_short layout itinerary.bytes.now 257 (first_interface_of layout itinerary.bytes.now c.args.self.index) in
    ((tt, tt, inl (omega (arith, none, whole, short))), tt)

pub loop-entries-init : goal.loop-entries-init
loop-entries-init c =
    let same = c.into_iter-entries-iterator.ensures.into_iter_gives in
    entered_none _ _ _ _ _ (ap enumerate_count same ∙ c.enumerate-entries-items.ensures.count)
    (ap (λ s. records_left (enumerate_source s)) same ∙ ap records_left c.enumerate-entries-items.ensures.source ∙ c.table_records_within.ensures)

pub returns-then-entries-eq-MAX_ENTRIES : goal.returns-then-entries-eq-MAX_ENTRIES
unfolding station_with
returns-then-entries-eq-MAX_ENTRIES c =
    let entered = c.loop-entries.invariant in
    let turn = c.in-Some.ensures.steps in
    elim c.then-entries-eq-MAX_ENTRIES.branch [
      | then-entries-eq-MAX_ENTRIES-via-then-entries-eq-MAX_ENTRIES w ↦ entered_many entered turn.0 (sym turn.1 ∙ w.if-entries-eq-MAX_ENTRIES.true)
      | then-entries-eq-MAX_ENTRIES-via-else-entries-eq-MAX_ENTRIES+then-number-lowest w ↦ entered_low entered turn.0 (rw (← c.interface_number.ensures, ← c.from-number.ensures) w.if-number-lowest.true)
    ]

pub returns-then-interface_state-ge8 : goal.returns-then-interface_state-ge8
unfolding station_with
returns-then-interface_state-ge8 c =
    entered_state c.loop-entries.invariant c.in-Some.ensures.steps.0 (rw (← c.interface_number.ensures, ← c.from-number.ensures) c.if-number-lowest.false)
    (rw (← c.interface_state.ensures) (omega (arith, c.if-interface_state-ge8.true)))

pub returns : goal.returns
unfolding station_with
returns c = entered_all c.loop-entries.invariant c.in-None.ensures.steps.0.0
