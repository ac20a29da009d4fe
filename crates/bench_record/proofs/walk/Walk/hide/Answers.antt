use Rattle.std.proofs.Common.{◌∙◌, ◌++◌, ◌∷◌, [], ℕ, List, ap}
use Rattle.bench_record.proofs.walk.Walk.hide.Goals as goal

pub returns-clause-seen : goal.returns-clause-seen
returns-clause-seen c = λ lost now seen is. record {
  sent = is.sent;
  waiting = is.waiting;
  doubts = is.doubts;
  long = is.long;
  replies = is.replies;
  events = is.events;
  passed = is.passed;
  hidden = c.in_ok-push.ensures.items ∙ ap (λ (times : List ℕ). times ++ c.args.time ∷ []) is.hidden;
  unnumbered = is.unnumbered;
}
