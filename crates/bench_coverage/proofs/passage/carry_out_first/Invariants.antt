use Rattle.std.proofs.Common.{◌≡◌, take}
use Rattle.mib_state.specs.After.{after}
use Rattle.bench_coverage.proofs.passage.carry_out_first.Given as goal

abbrev pub invariant-loop-place : goal.invariant-loop-place
invariant-loop-place l = record {
  before : l.before.entities ≡ after (take l.place l.requests);
  here : l.here ≡ after (take l.place l.requests);
}
