use Rattle.std.proofs.Common.{ℕ, List, Option, take, ap, sym, cond, ◌∙◌}
use Rattle.bench_history.specs.declared.event.Event.{Event}
use Rattle.bench_answers.specs.Standing.{excused_as, reached, standings}
use Rattle.bench_answers.specs.declared.standing.Standing.{Standing}
use Rattle.bench_answers.specs.declared.standing.Standing.TheVariants.{Answers, Absent}
use Rattle.bench_answers.proofs.Lookups.{waits_found}
use Rattle.bench_answers.proofs.answers.Answers.excused.Goals as goal

pub returns-in-Some : goal.returns-in-Some
returns-in-Some c = λ grounds events place is.
    let before : List Event = take place events in
    ap (λ (o : Option ℕ). excused_as grounds before (standings grounds before) c.args.reply.now o)
    (waits_found grounds events place c.args.self.now is c.args.reply.now c.deref.result.now c.deref.ensures.value _ c.in-Some.ensures)

pub returns-then-is_absent : goal.returns-then-is_absent
returns-then-is_absent c = λ grounds events place is.
    let before : List Event = take place events in
    let seen : List Standing = standings grounds before in
    ap (λ b. cond b Absent (Answers (reached seen))) (sym c.if-is_absent.true ∙ c.is_absent.ensures grounds events place is)
    ∙ ap (λ (o : Option ℕ). excused_as grounds before seen c.args.reply.now o)
    (waits_found grounds events place c.args.self.now is c.args.reply.now c.deref.result.now c.deref.ensures.value _ c.in_default.ensures)

pub returns : goal.returns
returns c = λ grounds events place is.
    let before : List Event = take place events in
    let seen : List Standing = standings grounds before in
    ap (λ n. Answers n) is.replies.next
    ∙ ap (λ b. cond b Absent (Answers (reached seen))) (sym c.if-is_absent.false ∙ c.is_absent.ensures grounds events place is)
    ∙ ap (λ (o : Option ℕ). excused_as grounds before seen c.args.reply.now o)
    (waits_found grounds events place c.args.self.now is c.args.reply.now c.deref.result.now c.deref.ensures.value _ c.in_default.ensures)
