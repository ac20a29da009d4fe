use Rattle.std.proofs.Common.{ap, ◌∙◌}
use Rattle.tag_view.specs.Dscp.{dscp_of}
use Rattle.frame_meaning.specs.declared.reason.Reason.TheVariants.{NoRule, RuleDiscard}
use Rattle.frame_meaning.specs.Meaning.{Table}
use Rattle.explain.specs.Outgoing.{outgoing_by}
use Rattle.explain.specs.Steps.{dropped, from_table, from_tags, tries_of}
use Rattle.explain.proofs.Appended.{appended_on_ok}
use Rattle.explain.proofs.Stages.{rule_outgoing, table_discards, table_drops, table_leads}
use Rattle.explain.proofs.explaining.append_table.Goals as goal

pub returns-in_default : goal.returns-in_default
returns-in_default c =
    let e = c.args.mib.now.entities in
    let table = c.args.table.now in
    let frame = c.args.frame.now in
    appended_on_ok c.append_drop.result c.args.steps.now.items c.append_tries.new.steps.items (tries_of table frame)
    (dropped NoRule) (from_table e c.args.port table frame) c.append_drop.new.steps.items
    c.in_ok-append_tries.ensures (table_drops e c.args.port table frame c.in_default.ensures) c.append_drop.ensures

pub returns-in-Some-outgoing_by : goal.returns-in-Some-outgoing_by
returns-in-Some-outgoing_by c =
    let e = c.args.mib.now.entities in
    let table = c.args.table.now in
    let frame = c.args.frame.now in
    let tags = c.in-Some-outgoing_by.tags.items in
    let used = c.in-Some.ensures in
    let by_settings = ap (λ (t : Table). outgoing_by c.in-Some.rule.now.treatment t.settings frame.tags (dscp_of frame.rest)) c.table.view_is in
    appended_on_ok c.append_tags.result c.args.steps.now.items c.append_tries.new.steps.items (tries_of table frame)
    (from_tags e c.args.port frame tags) (from_table e c.args.port table frame) c.append_tags.new.steps.items
    c.in_ok-append_tries.ensures
    (table_leads e c.args.port table frame used.0 tags used.1
    (rule_outgoing used.0 c.in-Some.rule.now table.settings frame.tags (dscp_of frame.rest) _ used.2 (c.in-Some-outgoing_by.ensures ∙ by_settings)))
    c.append_tags.ensures

pub returns-in-None : goal.returns-in-None
returns-in-None c =
    let e = c.args.mib.now.entities in
    let table = c.args.table.now in
    let frame = c.args.frame.now in
    let used = c.in-Some.ensures in
    let by_settings = ap (λ (t : Table). outgoing_by c.in-Some.rule.now.treatment t.settings frame.tags (dscp_of frame.rest)) c.table.view_is in
    appended_on_ok c.append_drop-in-None.result c.args.steps.now.items c.append_tries.new.steps.items (tries_of table frame)
    (dropped RuleDiscard) (from_table e c.args.port table frame) c.append_drop-in-None.new.steps.items
    c.in_ok-append_tries.ensures
    (table_discards e c.args.port table frame used.0 used.1
    (rule_outgoing used.0 c.in-Some.rule.now table.settings frame.tags (dscp_of frame.rest) _ used.2 (c.in-None.ensures ∙ by_settings)))
    c.append_drop-in-None.ensures
