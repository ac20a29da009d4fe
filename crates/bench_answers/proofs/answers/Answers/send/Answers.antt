use Rattle.std.proofs.Common.{refl}
use Rattle.bench_history.specs.declared.event.Event.TheVariants.{Sent}
use Rattle.bench_answers.proofs.Following.{sent_on}
use Rattle.bench_answers.proofs.Results.{ok_more}
use Rattle.bench_answers.proofs.answers.Answers.send.Goals as goal

pub returns : goal.returns
returns c = λ grounds events at is.
    ok_more c.send.result _ _ (λ x asks. sent_on grounds events c.args.place (Sent c.args.message.now) at c.args.self.now is c.send.new.self asks refl refl)
    (c.send.ensures grounds events at is.asking)
