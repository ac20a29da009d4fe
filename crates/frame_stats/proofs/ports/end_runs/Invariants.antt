use Rattle.std.proofs.Common.{◌≡◌, ℕ, ◌+◌, take}
use Rattle.frame_stats.specs.Ports.{in_map, NoneIsZero}
use Rattle.frame_stats.specs.Runs.{in_runs}
use Rattle.frame_stats.proofs.ports.end_runs.Given as goal

abbrev pub invariant-loop-run : goal.invariant-loop-run
invariant-loop-run l = record {
  added : (q : ℕ) → in_map l.ports q ≡ in_map l.fn.ports q + in_runs q (take l.run-index l.runs);
  no_zeros : NoneIsZero l.fn.ports → NoneIsZero l.ports;
}
