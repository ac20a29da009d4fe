use Rattle.std.proofs.Common.{◌≡◌, length, take}
use Rattle.std.specs.Prelude.{MatchBool}
use Rattle.mib_state.specs.After.{after}
use Rattle.bench_judge.specs.Sweep.{IsSoFar, IsWhole, NoneFit}
use Rattle.bench_judge.proofs.sweep.settle_all.Given as goal

abbrev pub invariant-loop-slot : goal.invariant-loop-slot
invariant-loop-slot l = record {
  slots : length l.sweep.waiting.items ≡ length l.fn.sweep.waiting.items;
  whole : IsWhole l.case.frames.now l.sweep;
  so_far : l.live ≡ after (take l.version l.case.requests.now)
      → IsSoFar l.case.padded l.case.unordered l.case.events.now l.case.requests.now l.case.frames.now l.version 0 l.fn.sweep
      → MatchBool l.all (IsSoFar l.case.padded l.case.unordered l.case.events.now l.case.requests.now l.case.frames.now l.version l.slot l.sweep)
      (NoneFit l.case.padded l.case.unordered l.case.events.now l.case.requests.now l.case.frames.now);
}
