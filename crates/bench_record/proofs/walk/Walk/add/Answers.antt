use Rattle.bench_record.proofs.Walks.{events_more}
use Rattle.bench_record.proofs.walk.Walk.add.Goals as goal

pub returns-clause-seen : goal.returns-clause-seen
returns-clause-seen c = λ lost time seen is. record {
  sent = is.sent;
  waiting = is.waiting;
  doubts = is.doubts;
  long = is.long;
  replies = is.replies;
  events = events_more c.args.self.now.events.items _ _ seen.events c.in_ok-push.ensures.items is.events;
  passed = is.passed;
  hidden = is.hidden;
  unnumbered = is.unnumbered;
}
