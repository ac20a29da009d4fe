use Rattle.std.proofs.Common.{◌∙◌}
use Rattle.tag_view.specs.Frame.{reading_of}
use Rattle.port_plan.specs.Leaving.{tags_made}
use Rattle.port_plan.proofs.Meant.{framed, meant_drop, one_more, received_forward, received_frame}
use Rattle.port_plan.proofs.port_plan.PortPlan.push_read.Goals as goal

pub returns-in-Ok-clause-verdict : goal.returns-in-Ok-clause-verdict
returns-in-Ok-clause-verdict c = λ e port planned.
    let plan = c.args.self.now in
    let bytes = c.args.bytes.now in
    let head = c.args.head.now in
    let frame = reading_of plan.table.now.table.settings.input_tpid bytes in
    one_more c.args.verdicts.now.items c.push_many_tags.new.verdicts.items _ _ c.push_many_tags.ensures.verdict
    (received_forward e port plan bytes head c.args.received c.in-Ok.gem (tags_made c.in-Ok.tagging) planned c.requires.head c.requires.received
    (c.in-Ok.ensures.leaves e port frame planned (received_frame plan bytes head c.args.received c.behind_tags.result.now c.requires.head c.requires.received c.behind_tags.ensures)))

pub returns-in-Ok-2-clause-verdict : goal.returns-in-Ok-2-clause-verdict
returns-in-Ok-2-clause-verdict c = λ e port planned.
    let plan = c.args.self.now in
    let bytes = c.args.bytes.now in
    let head = c.args.head.now in
    let frame = reading_of plan.table.now.table.settings.input_tpid bytes in
    one_more c.args.verdicts.now.items c.push_reserved.new.self.items _ _ c.push_reserved.ensures.items
    (framed c.in-Ok.gem c.count-in-Ok-2.result c.args.received bytes c.words.result c.in-Ok.tagging c.of_two_words.result c.of_two_words.ensures
    c.words.ensures.value c.count-in-Ok-2.ensures.value
    ∙ received_forward e port plan bytes head c.args.received c.in-Ok.gem (tags_made c.in-Ok.tagging) planned c.requires.head c.requires.received
    (c.in-Ok.ensures.leaves e port frame planned (received_frame plan bytes head c.args.received c.behind_tags.result.now c.requires.head c.requires.received c.behind_tags.ensures)))

pub returns-in-Err-clause-verdict : goal.returns-in-Err-clause-verdict
returns-in-Err-clause-verdict c = λ e port planned.
    let plan = c.args.self.now in
    let bytes = c.args.bytes.now in
    let head = c.args.head.now in
    let frame = reading_of plan.table.now.table.settings.input_tpid bytes in
    one_more c.args.verdicts.now.items c.push_reserved-in-Err.new.self.items _ _ c.push_reserved-in-Err.ensures.items
    (meant_drop e port bytes plan frame c.in-Err.reason planned c.requires.head.read
    (c.in-Err.ensures.dropped e port frame planned (received_frame plan bytes head c.args.received c.behind_tags.result.now c.requires.head c.requires.received c.behind_tags.ensures)))
