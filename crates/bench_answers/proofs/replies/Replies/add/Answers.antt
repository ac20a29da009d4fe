use Rattle.std.proofs.Common.{arith}
use Rattle.bench_answers.specs.declared.replies.Replies.{Replies}
use Rattle.bench_answers.proofs.Reaching.{replies_on}
use Rattle.bench_answers.proofs.replies.Replies.add.Goals as goal

pub returns : goal.returns
returns c = λ seen is_next is.
    let old : Replies = c.args.self.now in
    let new : Replies = record { counts = c.with-self.result; reached = c.push.new.self } in
    replies_on seen old (omega (arith, is.count, old.reached.ok.0)) is c.args.standing new is_next c.with-self.ensures c.in_ok-push.ensures.items
