use Rattle.std.proofs.Common.{◌≡◌, length}
use Rattle.bench_judge.specs.Alone.{AreJoined, left_of}
use Rattle.bench_judge.proofs.fitting.left_over.Given as goal

abbrev pub invariant-loop-number : goal.invariant-loop-number
invariant-loop-number l = record {
  count : length l.left.items ≡ l.number;
  each : AreJoined left_of l.found l.frames l.left.items;
}
