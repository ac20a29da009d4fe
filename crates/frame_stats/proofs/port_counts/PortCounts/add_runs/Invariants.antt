use Rattle.std.proofs.Common.{◌≡◌, ℕ, ◌+◌, take}
use Rattle.frame_stats.specs.Figures.{at_port}
use Rattle.frame_stats.specs.Runs.{in_runs}
use Rattle.frame_stats.proofs.port_counts.PortCounts.add_runs.Given as goal

abbrev pub invariant-loop-run : goal.invariant-loop-run
invariant-loop-run l = (q : ℕ) → at_port l.self q ≡ at_port l.fn.self q + in_runs q (take l.run-index l.runs)
