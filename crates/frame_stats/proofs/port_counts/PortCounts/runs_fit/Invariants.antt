use Rattle.std.proofs.Common.{◌+◌, ◌<◌, ◌^◌, ℕ, get_or}
use Rattle.frame_stats.specs.Figures.{at_port}
use Rattle.frame_stats.specs.Ports.{no_run}
use Rattle.frame_stats.proofs.port_counts.PortCounts.runs_fit.Given as goal

abbrev pub invariant-loop-run : goal.invariant-loop-run
invariant-loop-run l = (k : ℕ) → k < l.run-index → 0 < (get_or l.more.runs k no_run).frames → at_port l.self (get_or l.more.runs k no_run).port + at_port l.more (get_or l.more.runs k no_run).port < 2 ^ 64
