use Rattle.bench_record.proofs.Walks.{early_more}
use Rattle.bench_record.proofs.walk.Walk.pass_early.Goals as goal

pub returns-clause-seen : goal.returns-clause-seen
returns-clause-seen c = λ lost time seen is. record {
  sent = is.sent;
  waiting = is.waiting;
  doubts = is.doubts;
  long = is.long;
  replies = is.replies;
  events = is.events;
  passed = early_more c.args.self.now.passed c.push.new.self c.args.source seen.passed c.in_ok-push.ensures.items is.passed;
  hidden = is.hidden;
  unnumbered = is.unnumbered;
}
