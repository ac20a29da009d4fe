use Rattle.std.proofs.Common.{ap, sym, ◌∙◌, ◌-◌, length}
use Rattle.std.specs.Prelude.{slice_index_or}
use Rattle.tag_view.specs.Tag.{TagFields, missing_tag}
use Rattle.tag_view.specs.Dscp.{dscp_of}
use Rattle.rule_index.specs.Head.{FrameHead}
use Rattle.port_plan.proofs.Planned.{made_tags, marked, planned_reason, sources}
use Rattle.port_plan.proofs.port_plan.PortPlan.tagging.Goals as goal

pub returns-in-Ok-clause-tags : goal.returns-in-Ok-clause-tags
returns-in-Ok-clause-tags c = λ e port frame planned of place.
    let table = c.args.self.now.table.now.table in
    let treat = c.in-Ok.treat.now in
    let found = c.in-Ok.ensures.treat frame of.read in
    let first : FrameHead → TagFields = λ head. slice_index_or head.tags 0 missing_tag in
    let last : FrameHead → TagFields = λ head. slice_index_or head.tags (length head.tags - 1) missing_tag in
    made_tags e port frame table found.0 treat c.outer.result c.inner.result c.marking.result planned.table of.two of.range found.1 found.2
    (sources treat table.settings frame.tags (dscp_of frame.rest) c.outer.result c.inner.result c.marking.result of.two of.range
    (c.outer.ensures ∙ ap first (sym of.read)) (c.inner.ensures ∙ ap last (sym of.read))
    (marked c.args.self.now treat table.settings (dscp_of frame.rest) c.args.place c.marking.result place
    (c.marking.ensures.value (dscp_of frame.rest)) c.in-Ok.ensures.dscp))

pub returns-in-Err-clause-reason : goal.returns-in-Err-clause-reason
returns-in-Err-clause-reason c = λ e port frame planned of.
    planned_reason e port frame c.args.self.now.table.now.table c.in-Err.reason planned.table of.two of.range (c.in-Err.ensures.reason frame of.read of.range)
