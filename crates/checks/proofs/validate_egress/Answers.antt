use mathlib.Core.Path.{sym, ap, ◌∙◌}
use Rattle.fields.specs.Fields.{seg_id}
use Rattle.answers.proofs.Asked.{goes_on_lem}
use Rattle.validator.proofs.Schedule.{mac_asked}
use Rattle.checks.proofs.Read.{fields_asked}
use Rattle.checks.proofs.validate_egress.Goals as goal

pub returns : goal.returns
returns c =
    let index = c.curr_hop_field_idx-hop_index.ensures in
    let hop = c.curr_hop_field-hop.ensures in
    let info = c.curr_info_field-info.ensures in
    let schedule = c.new-schedule.ensures in
    let asked = fields_asked c.args.at c.args.path.now index hop info c.validate_hop.ensures in
    mac_asked c.args.forwarding_key.now (schedule.table ∙ c.round_table-table.ensures) (schedule.round_keys ∙ c.expand_key-round_keys.ensures) schedule.k1
    c.if-at.false c.validate_mac.ensures index hop info (c.segment_id.ensures ∙ ap seg_id info)
    ∙ sym (goes_on_lem _ _ (sym asked ∙ c.in_ok-validate_hop.was))
