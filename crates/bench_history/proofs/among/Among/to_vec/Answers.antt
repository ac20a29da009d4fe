use Rattle.bench_history.proofs.Rising.{in_order}
use Rattle.bench_history.proofs.among.Among.to_vec.Goals as goal

pub returns-clause-order : goal.returns-clause-order
returns-clause-order c = in_order c.words.result.now c.args.self.now.numbers c.words.ensures

pub returns-in_err-push-clause-order : goal.returns-in_err-push-clause-order
returns-in_err-push-clause-order c = in_order c.words.result.now c.args.self.now.numbers c.words.ensures
