use Rattle.std.proofs.Common.{◌-◌, slice_index}
use Rattle.bench_judge.specs.Bounds.{AreStepsUnder}
use Rattle.bench_judge.specs.Rising.{AreGreatest}
use Rattle.bench_judge.proofs.steps.rises.Given as goal

abbrev pub invariant-loop-number : goal.invariant-loop-number
invariant-loop-number l = record {
  greatest : AreGreatest l.frames (λ n. slice_index l.versions n - l.base) l.number l.greatest.items;
  steps : AreStepsUnder l.frames (λ n. slice_index l.versions n - l.base) l.number l.steps.items;
}
