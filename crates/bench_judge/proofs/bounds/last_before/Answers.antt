use Rattle.std.proofs.Common.{◌≡◌, arith, sym, ◌∙◌, true≢false}
use Rattle.bench_judge.proofs.Nearest.{ended_here, here_ended, last_here, last_not_here, last_up_to}
use Rattle.bench_judge.proofs.bounds.last_before.Goals.{then-has_ended_at, else-has_ended_at}
use Rattle.bench_judge.proofs.bounds.last_before.Goals as goal

pub loop-before-preserved : goal.loop-before-preserved
loop-before-preserved c =
    let frames = c.args.frames.now in
    let n = c.loop-before.before in
    elim c.if-has_ended_at.branch [
      | then-has_ended_at w ↦
          last_here frames c.args.port n c.if-has_ended_at.last
          (ended_here frames c.args.port n _ (omega (arith, c.requires, c.loop-before-test.true)) (c.has_ended_at.ensures.0 w.if-has_ended_at.true)) w.last-is
      | else-has_ended_at w ↦
          last_not_here frames c.args.port n c.loop-before.last c.if-has_ended_at.last
          (λ held. true≢false (sym (c.has_ended_at.ensures.1 (here_ended frames c.args.port n _ held)) ∙ w.if-has_ended_at.false)) c.loop-before.invariant w.last-is
    ]

pub returns : goal.returns
returns c =
    let same : c.loop-before.before ≡ c.args.number = omega (arith, c.loop-before-test.false, c.loop-before.auto.before-end) in
    last_up_to c.args.frames.now c.args.port c.loop-before.before c.args.number c.loop-before.last same c.loop-before.invariant
