use Rattle.std.proofs.Common.{refl}
use Rattle.bench_record.proofs.walk.Walk.leave_out.Goals as goal

pub returns-clause-seen : goal.returns-clause-seen
returns-clause-seen c = λ lost now seen is. record {
  sent = is.sent;
  waiting = is.waiting;
  doubts = is.doubts;
  long = is.long;
  replies = is.replies;
  events = is.events;
  passed = is.passed;
  hidden = is.hidden;
  unnumbered = refl;
}
