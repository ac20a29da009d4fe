use Rattle.std.proofs.Common.{◌∷◌, ◌++◌, [], List, take, sym, subst, refl, arith}
use Rattle.bench_history.specs.declared.event.Event.{Event}
use Rattle.bench_history.specs.declared.event.Event.TheVariants.{Excused}
use Rattle.bench_answers.specs.Kept.{AreReplies, IsNextOf}
use Rattle.bench_answers.specs.Standing.{excused_of, standings}
use Rattle.bench_answers.specs.declared.standing.Standing.{Standing}
use Rattle.bench_answers.proofs.Following.{replied_on}
use Rattle.bench_answers.proofs.Onward.{excused_goes_on}
use Rattle.bench_answers.proofs.Results.{ok_more}
use Rattle.bench_answers.proofs.answers.Answers.excuse.Goals as goal

pub returns : goal.returns
returns c = λ grounds events place at is.
    let before : List Event = take place events in
    let seen : List Standing = standings grounds before in
    let s : Standing = excused_of grounds before seen c.args.reply.now in
    let same = c.excused-standing.ensures grounds events place is in
    let on = excused_goes_on grounds before seen c.args.reply.now is.answered
    (omega (arith, is.asking.expected.count, c.args.self.now.asking.expected.ok.0)) (omega (arith, is.start.count, c.args.self.now.start.ok.0)) in
    ok_more c.add.result _ _ (λ x are.
    replied_on grounds events place (Excused c.args.reply.now) at c.args.self.now is refl refl refl s c.add.new.self refl refl
    (subst (λ (t : Standing). AreReplies (seen ++ t ∷ []) c.add.new.self) same are) on.1)
    (c.add.ensures seen (subst (λ (t : Standing). IsNextOf seen t) (sym same) on.0) is.replies)
