use Rattle.std.proofs.Common.{◌-◌, ◌≡◌, ◌≤◌, length, take}
use Rattle.mib_state.specs.After.{after}
use Rattle.bench_judge.proofs.fitting.advance.Given as goal

abbrev pub invariant-loop-applied : goal.invariant-loop-applied
invariant-loop-applied l = record {
  within : l.applied ≤ length l.requests;
  live : l.fn.live ≡ after (take l.fn.applied l.requests) → l.live ≡ after (take l.applied l.requests);
}

abbrev pub decreases-loop-applied : goal.decreases-loop-applied
decreases-loop-applied l = l.wanted - l.applied
