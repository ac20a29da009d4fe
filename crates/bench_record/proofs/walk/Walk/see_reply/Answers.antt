use Rattle.std.proofs.Common.{◌<◌, ◌≤◌, ◌+◌, ◌∙◌, ◌∷◌, [], ap, arith}
use Rattle.std.proofs.lemmas.Result.{IfOk-weaker}
use Rattle.bench_history.specs.declared.event.Event.TheVariants.{Replied}
use Rattle.bench_record.specs.Index.{IsSeen}
use Rattle.bench_record.specs.Recorded.{Seen, seen_in, waits, with_events}
use Rattle.bench_record.specs.Walk.{sourced_shown}
use Rattle.bench_record.proofs.Walks.{reply_full, reply_more, seen_as}
use Rattle.bench_record.proofs.walk.Walk.see_reply.Goals as goal

pub returns-then-self-clause-seen : goal.returns-then-self-clause-seen
returns-then-self-clause-seen c = λ time seen is.
    let s = c.args.given.now.settings in
    let full : 4294967295 ≤ seen.replies = omega (arith, is.replies) in
    IfOk-weaker c.pass_unwritable.result _ _
    (λ done so. seen_as s.lost time _ _ c.pass_unwritable.new.self (reply_full s (sourced_shown c.args.at.now) c.args.reply.now seen full) so)
    (c.pass_unwritable.ensures.seen s.lost time seen is)

pub returns-clause-seen : goal.returns-clause-seen
returns-clause-seen c = λ time seen is.
    let s = c.args.given.now.settings in
    let at = sourced_shown c.args.at.now in
    let few : seen.replies < 4294967295 = omega (arith, is.replies) in
    let one_more : Seen = record seen { replies = seen.replies + 1 } in
    let counted : IsSeen s.lost time one_more (record c.args.self.now { replies = c.args.self.now.replies + 1 }) = record {
      sent = is.sent;
      waiting = is.waiting;
      doubts = is.doubts;
      long = is.long;
      replies = ap (λ n. n + 1) is.replies;
      events = is.events;
      passed = is.passed;
      hidden = is.hidden;
      unnumbered = is.unnumbered;
    } in
    let told = c.in_ok-add.ensures.seen s.lost time one_more counted in
    IfOk-weaker c.add_wait.result _ _
    (λ done so. seen_as s.lost time _ _ c.add_wait.new.self
    (ap (λ n. with_events (waits s.wait at.frame.time (n + 1)) (with_events (seen_in at (Replied c.args.reply.now) ∷ []) one_more)) is.replies
    ∙ reply_more s at c.args.reply.now seen few) so)
    (c.add_wait.ensures.seen s.lost time _ told)
