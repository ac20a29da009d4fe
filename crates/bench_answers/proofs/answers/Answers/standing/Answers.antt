use Rattle.std.proofs.Common.{ℕ, List, Option, None, take, ap, ◌∙◌}
use Rattle.bench_history.specs.declared.event.Event.{Event}
use Rattle.bench_answers.specs.Standing.{answers_start, reached, standing_by, standings}
use Rattle.bench_answers.specs.declared.standing.Standing.{Standing}
use Rattle.bench_answers.specs.declared.standing.Standing.TheVariants.{Answers}
use Rattle.bench_answers.proofs.answers.Answers.standing.Goals as goal

pub returns-in-Some : goal.returns-in-Some
returns-in-Some c = λ grounds events place is.
    let before : List Event = take place events in
    let seen : List Standing = standings grounds before in
    ap (λ (o : Option ℕ). standing_by o (answers_start grounds before seen c.args.reply.now) (reached seen)) (c.in-Some.ensures grounds events place is)

pub returns-in-Some-of_start : goal.returns-in-Some-of_start
returns-in-Some-of_start c = λ grounds events place is.
    let before : List Event = take place events in
    let seen : List Standing = standings grounds before in
    ap (λ (o : Option ℕ). standing_by None o (reached seen)) (c.in-Some-of_start.ensures grounds events place is)
    ∙ ap (λ (o : Option ℕ). standing_by o (answers_start grounds before seen c.args.reply.now) (reached seen)) (c.in_default.ensures grounds events place is)

pub returns : goal.returns
returns c = λ grounds events place is.
    let before : List Event = take place events in
    let seen : List Standing = standings grounds before in
    ap (λ n. Answers n) is.replies.next
    ∙ ap (λ (o : Option ℕ). standing_by None o (reached seen)) (c.in_default-of_start.ensures grounds events place is)
    ∙ ap (λ (o : Option ℕ). standing_by o (answers_start grounds before seen c.args.reply.now) (reached seen)) (c.in_default.ensures grounds events place is)
