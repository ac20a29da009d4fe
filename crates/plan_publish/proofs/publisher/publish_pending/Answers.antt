use Rattle.std.proofs.Common.{drop}
use Rattle.left_right.specs.Sides.{view}
use Rattle.plan_publish.proofs.Keeps.{publishes}
use Rattle.plan_publish.proofs.Messages.{absorbed, stands_after}
use Rattle.plan_publish.proofs.publisher.publish_pending.Goals as goal

pub publish_as-writer-requires : goal.publish_as-writer-requires
publish_as-writer-requires g c next is =
    let w = c.args.writer in
    let x = w.desk.shown.value in
    let made = absorbed x next (view w.desk.place) (drop w.behind w.log.items) g.J.Pending.pending c.requires.stands c.requires.pending is in
    publishes _ _ x next g.J.Pending.pending c.requires.stands.is_after made.home_is made.is_after made.trail

pub returns-clause-stands : goal.returns-clause-stands
returns-clause-stands g c =
    let w = c.args.writer in
    let now = c.publish_as-writer.result.0 in
    let values = rw c.in-Ok.is at c.publish_as-writer.ensures.values in
    let rule = rw c.in-Ok.is at c.publish_as-writer.ensures.rule in
    stands_after w.desk.shown.value now.desk.shown.value (view w.desk.place) (view now.desk.place) (drop w.behind w.log.items) g.J.Pending.pending c.requires.stands
    c.requires.pending values.0 rule

pub returns-clause-book : goal.returns-clause-book
returns-clause-book g c =
    let w = c.args.writer in
    let x = w.desk.shown.value in
    let values = rw c.in-Ok.is at c.publish_as-writer.ensures.values in
    let made = absorbed x c.publish_as-writer.result.0.desk.shown.value (view w.desk.place) (drop w.behind w.log.items) g.J.Pending.pending c.requires.stands c.requires.pending values.0 in
    made.home_is
