use Rattle.std.proofs.Common.{sym, ◌∙◌}
use Rattle.bench_answers.proofs.Lookups.{start_found, start_looked}
use Rattle.bench_answers.proofs.answers.Answers.of_start.Goals as goal

pub returns : goal.returns
returns c = λ grounds events place is.
    let self = c.args.self.now in
    start_looked grounds events place self is c.args.reply.now c.first_right.result (sym c.is_some.ensures ∙ c.if-is_some.false)
    (start_found grounds events place self is c.args.reply.now c.deref.result.now c.deref.ensures.value c.first_right.result c.first_right.ensures)
