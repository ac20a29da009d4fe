use Rattle.std.proofs.Common.{sym, ap, ◌∙◌}
use Rattle.mib_state.specs.Step.{left}
use Rattle.bench_judge.proofs.Afters.{after_more}
use Rattle.bench_judge.proofs.runs.live_after.Goals as goal

pub loop-request-preserved : goal.loop-request-preserved
loop-request-preserved c =
    let q = c.request-item.result in
    c.apply.ensures ∙ ap (λ e. left q.action e q) c.loop-request.invariant
    ∙ sym (after_more c.args.requests.now c.loop-request.request-index q c.loop-request-test.true c.request-item.is)
