use Rattle.std.proofs.Common.{IfOk, sym, subst}
use Rattle.bench_judge.specs.Cut.{IsFitted, IsSwept}
use Rattle.bench_judge.proofs.Alone.{alone_suits, swept_suits}
use Rattle.bench_judge.proofs.fitting.versions_of.Goals as goal

pub returns-then-case : goal.returns-then-case
returns-then-case g c =
    let case = c.args.case.now in
    subst (λ unordered. IfOk c.versions_alone.result (IsFitted case.padded unordered case.events.now case.requests.now case.frames.now)) (sym c.if-case.true)
    (alone_suits case.padded case.events.now case.requests.now case.frames.now c.versions_alone.result c.versions_alone.ensures)

pub returns : goal.returns
returns g c =
    let case = c.args.case.now in
    subst (λ unordered. IfOk c.sweep.result (IsFitted case.padded unordered case.events.now case.requests.now case.frames.now)) (sym c.if-case.false)
    (swept_suits case.padded case.events.now case.requests.now case.frames.now c.sweep.result
    (subst (λ unordered. IfOk c.sweep.result (IsSwept case.padded unordered case.events.now case.requests.now case.frames.now)) c.if-case.false c.sweep.ensures))
