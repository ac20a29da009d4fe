use Rattle.std.proofs.Common.{◌∙◌, ◌+◌, ◌-◌, ◌*◌, ℕ, ap, length}
use Rattle.std.specs.Prelude.{Ok}
use Rattle.frame_meaning.specs.declared.verdict.Verdict.{Verdict}
use Rattle.tag_view.specs.Frame.{reading_of}
use Rattle.port_plan.specs.Leaving.{outcome_of, tags_made}
use Rattle.port_plan.proofs.Meant.{left_length, meant_drop, received_forward, received_frame}
use Rattle.port_plan.proofs.port_plan.PortPlan.outcome_read.Goals as goal

pub returns-in-Ok : goal.returns-in-Ok
returns-in-Ok c = λ e port planned.
    let plan = c.args.self.now in
    let bytes = c.args.bytes.now in
    let head = c.args.head.now in
    let frame = reading_of plan.table.now.table.settings.input_tpid bytes in
    let size =
    ap (λ (n : ℕ). length bytes - 4 * n + 4 * c.count.result) c.from.ensures
    ∙ left_length bytes c.args.received c.count.result c.in-Ok.tagging c.requires.head c.requires.received c.count.ensures.value c.count.ensures.four c.in-Ok.ensures.four in
    ap (λ (n : ℕ). Ok (c.in-Ok.gem, n)) size
    ∙ ap (λ (v : Verdict). outcome_of v)
    (received_forward e port plan bytes head c.args.received c.in-Ok.gem (tags_made c.in-Ok.tagging) planned c.requires.head c.requires.received
    (c.in-Ok.ensures.leaves e port frame planned (received_frame plan bytes head c.args.received c.behind_tags.result.now c.requires.head c.requires.received c.behind_tags.ensures)))

pub returns-in-Err : goal.returns-in-Err
returns-in-Err c = λ e port planned.
    let plan = c.args.self.now in
    let bytes = c.args.bytes.now in
    let head = c.args.head.now in
    let frame = reading_of plan.table.now.table.settings.input_tpid bytes in
    ap (λ (v : Verdict). outcome_of v)
    (meant_drop e port bytes plan frame c.in-Err.reason planned c.requires.head.read
    (c.in-Err.ensures.dropped e port frame planned (received_frame plan bytes head c.args.received c.behind_tags.result.now c.requires.head c.requires.received c.behind_tags.ensures)))
