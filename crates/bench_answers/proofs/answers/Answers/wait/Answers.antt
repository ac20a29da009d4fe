use Rattle.std.proofs.Common.{ℕ, take, refl, arith}
use Rattle.bench_history.specs.declared.event.Event.TheVariants.{Waited}
use Rattle.bench_answers.specs.Standing.{reached_by, standings}
use Rattle.bench_answers.proofs.Following.{waited_on}
use Rattle.bench_answers.proofs.Onward.{by_reaches}
use Rattle.bench_answers.proofs.answers.Answers.wait.Goals as goal

pub returns-then-self-reached : goal.returns-then-self-reached
returns-then-self-reached c = λ grounds events place at is.
    let n : ℕ = reached_by c.args.replies (standings grounds (take place events)) in
    waited_on grounds events place (Waited c.args.replies) at c.args.self.now is refl refl refl n c.reached_by-reached.result refl refl
    (omega (arith, c.reached_by-reached.ensures (standings grounds (take place events)) is.replies, c.if-self-reached.true))
    (by_reaches c.args.replies (standings grounds (take place events)))

pub returns-else-self-reached : goal.returns-else-self-reached
returns-else-self-reached c = λ grounds events place at is.
    let n : ℕ = reached_by c.args.replies (standings grounds (take place events)) in
    waited_on grounds events place (Waited c.args.replies) at c.args.self.now is refl refl refl n c.args.self.now.waited refl refl
    (omega (arith, c.reached_by-reached.ensures (standings grounds (take place events)) is.replies, c.if-self-reached.false))
    (by_reaches c.args.replies (standings grounds (take place events)))
