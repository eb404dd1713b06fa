use borrow.Author.Rules.{rules}
use mathlib.Core.Path.{sym, ap, ◌∙◌}
use Prim.Native.Nat.{ℕ, ◌+◌}
use Rattle.fields.specs.Fields.{seg_id}
use Rattle.answers.proofs.Asked.{goes_on_lem, stops}
use Rattle.validator.proofs.Schedule.{mac_asked}
use Rattle.checks.proofs.validate_checked.Goals as goal

pub returns-in_err-validate_next : goal.returns-in_err-validate_next
returns-in_err-validate_next c =
    let schedule = c.new-schedule.ensures in
    let asked = mac_asked c.args.forwarding_key.now (schedule.table ∙ c.round_table-table.ensures) (schedule.round_keys ∙ c.expand_key-round_keys.ensures) schedule.k1
    c.requires c.validate_mac.ensures c.curr_hop_field_idx-hop_index.ensures c.curr_hop_field.ensures c.curr_info_field.ensures
    c.ingress_segment_id.ensures in
    let no = sym c.validate_next.ensures ∙ c.in_err-validate_next.was in
    rw c.if-not-change.false (search rules ∙ sym (goes_on_lem _ _ (sym asked ∙ c.in_ok-validate_mac.was) ∙ stops _ _ _ no))

pub returns : goal.returns
returns c =
    let schedule = c.new-schedule.ensures in
    let asked = mac_asked c.args.forwarding_key.now (schedule.table ∙ c.round_table-table.ensures) (schedule.round_keys ∙ c.expand_key-round_keys.ensures) schedule.k1
    c.requires c.validate_mac.ensures c.curr_hop_field_idx-hop_index.ensures c.curr_hop_field.ensures c.curr_info_field.ensures
    c.ingress_segment_id.ensures in
    let next_info = c.next_info_field-next_info.ensures in
    let again = sym c.validate_next.ensures ∙ c.in_ok-validate_next.was in
    let second = mac_asked c.args.forwarding_key.now (schedule.table ∙ c.round_table-table.ensures) (schedule.round_keys ∙ c.expand_key-round_keys.ensures) schedule.k1
    c.requires c.validate_mac-2.ensures (ap (λ (n : ℕ). n + 1) c.curr_hop_field_idx-hop_index.ensures) c.next_hop_field.ensures next_info
    (c.segment_id-segment_id.ensures ∙ ap seg_id next_info) in
    rw c.if-not-change.false (second ∙ sym (goes_on_lem _ _ (sym asked ∙ c.in_ok-validate_mac.was) ∙ goes_on_lem _ _ again))
