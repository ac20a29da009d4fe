use Rattle.std.proofs.Common.{◌≡◌, take}
use Rattle.mib_state.specs.After.{after}
use Rattle.bench_judge.proofs.runs.live_after.Given as goal

abbrev pub invariant-loop-request : goal.invariant-loop-request
invariant-loop-request l = l.live ≡ after (take l.request-index l.requests)
