use Rattle.std.proofs.Common.{ap, sym}
use Rattle.std.proofs.lemmas.Result.{IfOk-weaker}
use Rattle.bench_record.specs.Recorded.{see_at}
use Rattle.bench_record.specs.Walk.{sourced_shown}
use Rattle.bench_record.proofs.Walks.{seen_as, seen_later}
use Rattle.bench_record.proofs.walk.Walk.see.Goals as goal

pub returns-in-Omci-clause-seen : goal.returns-in-Omci-clause-seen
returns-in-Omci-clause-seen c = λ captures since seen are is within long.
    let s = c.args.given.now.settings in
    let at = sourced_shown c.args.at.now in
    IfOk-weaker c.see_message.result _ _
    (λ done so. seen_as s.lost at.frame.time _ _ c.see_message.new.self (ap (λ tap. see_at s captures at tap seen) (sym c.in-Omci.is)) so)
    (c.see_message.ensures.seen at.frame.time seen (seen_later s.lost since at.frame.time seen c.args.self.now within is))

pub returns-in-Into-clause-seen : goal.returns-in-Into-clause-seen
returns-in-Into-clause-seen c = λ captures since seen are is within long.
    let s = c.args.given.now.settings in
    let at = sourced_shown c.args.at.now in
    IfOk-weaker c.enter.result _ _
    (λ done so. seen_as s.lost at.frame.time _ _ c.enter.new.self (ap (λ tap. see_at s captures at tap seen) (sym c.in-Into.is)) so)
    (c.enter.ensures.seen at.frame.time seen (seen_later s.lost since at.frame.time seen c.args.self.now within is) long)

pub returns-in-OutOf-clause-seen : goal.returns-in-OutOf-clause-seen
returns-in-OutOf-clause-seen c = λ captures since seen are is within long.
    let s = c.args.given.now.settings in
    let at = sourced_shown c.args.at.now in
    IfOk-weaker c.leave.result _ _
    (λ done so. seen_as s.lost at.frame.time _ _ c.leave.new.self (ap (λ tap. see_at s captures at tap seen) (sym c.in-OutOf.is)) so)
    (c.leave.ensures.seen captures since seen are is within long)
