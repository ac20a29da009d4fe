use Rattle.std.proofs.Common.{◌≡◌, length}
use Rattle.bench_judge.specs.Alone.{AreJoined, version_or}
use Rattle.bench_judge.proofs.fitting.all_versions.Given as goal

abbrev pub invariant-loop-number : goal.invariant-loop-number
invariant-loop-number l = record {
  count : length l.all.items ≡ l.number;
  each : AreJoined version_or l.found l.others l.all.items;
}
