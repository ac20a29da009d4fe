use Rattle.bench_history.proofs.Added.{undoubted}
use Rattle.std.proofs.Common.{rules}
use Rattle.bench_history.proofs.doubts.Doubts.follow.Goals as goal

pub returns-in_default : goal.returns-in_default
returns-in_default c = λ events is. undoubted events c.args.event.now c.args.self.now (search rules) is
