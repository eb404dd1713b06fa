use borrow.Author.Rules.{rules}
use borrow.Author.Tests.{tests}
use native.Mathlib.Omega.{arith}
use mathlib.Core.Path.{sym, ◌∙◌}
use Prim.Native.Nat.{ℕ}
use lib.Dec.{eqb}
use Rattle.std.proofs.lemmas.Grind.{common_steps}
use Rattle.std.proofs.lemmas.Iterator.{YieldsList-from_slice}
use Rattle.std.proofs.lemmas.Iterator.Search.{position_from_yields_List}
use Rattle.std.proofs.lemmas.Option.{slice_get_cases}
use Rattle.interface_table.proofs.Scans.{state_by_place}
use Rattle.interface_table.proofs.InterfaceTable.lookup.Goals as goal

pub returns-in_err-entry : goal.returns-in_err-entry
returns-in_err-entry c =
    let table = c.args.self in
    let place = position_from_yields_List (λ (listed : ℕ). eqb listed c.args.id) _ _ c.position.result c.position.ensures.ran
    (YieldsList-from_slice table.ids.now cc) (λ x b q k. search (rules, tests)) in
    rw (state_by_place table.ids.now table.states.now c.args.id, sym place ∙ c.in_err-entry.was) (search rules)

pub returns : goal.returns
returns c =
    let table = c.args.self in
    let place = position_from_yields_List (λ (listed : ℕ). eqb listed c.args.id) _ _ c.position.result c.position.ensures.ran
    (YieldsList-from_slice table.ids.now cc) (λ x b q k. search (rules, tests)) in
    rw (state_by_place table.ids.now table.states.now c.args.id, sym place ∙ c.in_ok-entry.was)
    (grind (arith, common_steps, slice_get_cases table.states.now c.in_ok-entry.entry))
