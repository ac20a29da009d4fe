use Rattle.std.proofs.Common.{◌<◌, ℕ}
use Rattle.bench_judge.specs.Bounds.{HasEndedAt}
use Rattle.bench_judge.proofs.bounds.first_behind.Given as goal

abbrev pub invariant-loop-behind : goal.invariant-loop-behind
invariant-loop-behind l = record {
  behind : l.number < l.behind;
  none : (m : ℕ) → l.number < m → m < l.behind → ¬ (HasEndedAt l.frames l.port m);
}
