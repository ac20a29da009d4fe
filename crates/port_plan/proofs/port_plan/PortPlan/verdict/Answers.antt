use Rattle.std.proofs.Common.{◌∙◌, ◌≤◌, length, map, take, arith}
use Rattle.tag_view.specs.Frame.{reading_of}
use Rattle.tag_view.specs.Word.{tag_of}
use Rattle.port_plan.specs.Leaving.{tags_made}
use Rattle.port_plan.proofs.Meant.{few_tags, framed, grows, meant_drop, received_forward, received_frame}
use Rattle.port_plan.proofs.port_plan.PortPlan.verdict.Goals as goal

pub returns-in-Ok-clause-verdict : goal.returns-in-Ok-clause-verdict
returns-in-Ok-clause-verdict c = λ e port planned.
    let plan = c.args.self.now in
    let bytes = c.args.bytes.now in
    let head = c.args.head.now in
    let frame = reading_of plan.table.now.table.settings.input_tpid bytes in
    framed c.in-Ok.gem c.count.result c.args.received bytes c.words.result c.in-Ok.tagging c.of_words.result c.of_words.ensures c.words.ensures.value c.count.ensures.value
    ∙ received_forward e port plan bytes head c.args.received c.in-Ok.gem (tags_made c.in-Ok.tagging) planned c.requires.head c.requires.received
    (c.in-Ok.ensures.leaves e port frame planned (received_frame plan bytes head c.args.received c.behind_tags.result.now c.requires.head c.requires.received c.behind_tags.ensures))

pub returns-in-Ok-clause-size : goal.returns-in-Ok-clause-size
returns-in-Ok-clause-size c =
    let bytes = c.args.bytes.now in
    let whole = c.requires.head.whole in
    let count = c.requires.received in
    let four : length (map tag_of (take c.count.result c.words.result)) ≤ 4 = omega (arith, few_tags c.count.result c.words.result, c.count.ensures.four) in
    grows bytes c.args.received (map tag_of (take c.count.result c.words.result)) c.of_words.result (omega arith) four c.of_words.ensures

pub returns-in-Err-clause-verdict : goal.returns-in-Err-clause-verdict
returns-in-Err-clause-verdict c = λ e port planned.
    let plan = c.args.self.now in
    let bytes = c.args.bytes.now in
    let head = c.args.head.now in
    let frame = reading_of plan.table.now.table.settings.input_tpid bytes in
    meant_drop e port bytes plan frame c.in-Err.reason planned c.requires.head.read
    (c.in-Err.ensures.dropped e port frame planned (received_frame plan bytes head c.args.received c.behind_tags.result.now c.requires.head c.requires.received c.behind_tags.ensures))
