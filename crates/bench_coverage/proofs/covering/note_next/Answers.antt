use Rattle.std.proofs.Common.{sym}
use Rattle.bench_coverage.proofs.covering.note_next.Goals as goal

pub returns-clause-so_far : goal.returns-clause-so_far
returns-clause-so_far c = λ frames order are.
    let went = c.in_ok-class.ensures in
    c.in_ok-note.ensures.so_far frames c.args.judged.now
    (record { port = sym went.port; version = sym went.version; has_class = sym went.class; last = order }) are
