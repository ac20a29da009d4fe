use Rattle.std.proofs.Common.{ap, ◌∙◌}
use Rattle.tag_view.specs.Dscp.{dscp_of}
use Rattle.treatment.specs.Treatment.{treated}
use Rattle.frame_meaning.specs.Meaning.{Table}
use Rattle.frame_meaning.proofs.Tables.{discarded, left_tags}
use Rattle.frame_meaning.proofs.table.PortTable.tags.Goals as goal

pub returns-in-Tags-clause-tags : goal.returns-in-Tags-clause-tags
returns-in-Tags-clause-tags c =
    let frame = c.args.frame.now in
    let found = rw c.in_ok-rule.ensures.ok_part at c.rule_for.ensures in
    left_tags c.args.self.now frame found.0 c.in-Tags.tags.items found.1
    (c.in-Tags.ensures.of_entry found.0 found.2 ∙ ap (λ (t : Table). treated found.0 t.settings frame.tags (dscp_of frame.rest)) c.self.view_is)

pub returns-in-Discard-clause-reason : goal.returns-in-Discard-clause-reason
returns-in-Discard-clause-reason c =
    let frame = c.args.frame.now in
    let found = rw c.in_ok-rule.ensures.ok_part at c.rule_for.ensures in
    discarded c.args.self.now frame found.0 found.1
    (c.in-Discard.ensures.of_entry found.0 found.2 ∙ ap (λ (t : Table). treated found.0 t.settings frame.tags (dscp_of frame.rest)) c.self.view_is)
