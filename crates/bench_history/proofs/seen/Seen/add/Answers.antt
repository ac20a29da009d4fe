use Rattle.std.proofs.Common.{refl}
use Rattle.bench_history.proofs.Added.{entered}
use Rattle.bench_history.proofs.seen.Seen.add.Goals as goal

pub returns-in_ok-push-in-Entered : goal.returns-in_ok-push-in-Entered
returns-in_ok-push-in-Entered c = λ events is may.
    let kept = rw c.in-Entered.is at (c.in_ok-follow.ensures events is.doubts) in
    rw c.in-Entered.is (entered events _ _ _ c.args.self.now _ c.in_ok-push-in-Entered.ensures.items refl refl kept is)
