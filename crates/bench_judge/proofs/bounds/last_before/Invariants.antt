use Rattle.bench_judge.specs.Bounds.{IsLastOf}
use Rattle.bench_judge.proofs.bounds.last_before.Given as goal

abbrev pub invariant-loop-before : goal.invariant-loop-before
invariant-loop-before l = IsLastOf l.frames l.port l.before l.last
