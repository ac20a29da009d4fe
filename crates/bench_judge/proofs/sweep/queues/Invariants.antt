use Rattle.std.proofs.Common.{◌≡◌, length, replicate}
use Rattle.bench_judge.specs.Sweep.{AreQueuedSoFar}
use Rattle.bench_judge.proofs.sweep.queues.Given as goal

abbrev pub invariant-loop-number : goal.invariant-loop-number
invariant-loop-number l = record {
  tails : length l.tails.items ≡ 65536;
  links : length l.sweep.next.items ≡ length l.frames;
  versions : l.sweep.versions.items ≡ replicate (length l.frames) 0;
  queued : AreQueuedSoFar l.unordered l.frames l.number l.tails.items l.sweep;
}
