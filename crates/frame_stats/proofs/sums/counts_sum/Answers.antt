use Rattle.std.proofs.Common.{◌≡◌, ◌-◌, arith}
use Rattle.frame_meaning.specs.Reason.{number_of_reason}
use Rattle.frame_stats.specs.Figures.{FramesTo, DropsFor}
use Rattle.frame_stats.proofs.FigureSums.{reason_at}
use Rattle.frame_stats.proofs.sums.counts_sum.Goals as goal

pub returns-in_default-drops_sum-clause-full : goal.returns-in_default-drops_sum-clause-full
returns-in_default-drops_sum-clause-full c = λ _.
    let p = c.in_default-drops_sum.ensures in
    let r = reason_at p.0 p.1 in
    let place : number_of_reason r.0 - 1 ≡ p.0 = omega (arith, r.1) in
    (DropsFor r.0, rw place p.2)

pub returns-then-not-fit-clause-full : goal.returns-then-not-fit-clause-full
returns-then-not-fit-clause-full c = λ _. let p = c.if-not-fit.ensures in (FramesTo p.0, p.1)
