use Rattle.std.proofs.Common.{◌≡◌, length, take}
use Rattle.mib_state.specs.After.{after}
use Rattle.bench_judge.specs.Sweep.{IsSoFar, IsWhole}
use Rattle.bench_judge.proofs.sweep.sweep.Given as goal

abbrev pub invariant-loop-before : goal.invariant-loop-before
invariant-loop-before g l = record {
  live : l.live ≡ after (take l.before l.case.requests.now);
  whole : IsWhole l.case.frames.now l.sweep;
  so_far : IsSoFar l.case.padded l.case.unordered l.case.events.now l.case.requests.now l.case.frames.now l.before (length l.sweep.waiting.items) l.sweep;
}
