use Rattle.std.proofs.Common.{◌+◌, ◌<◌, ◌^◌, map}
use Rattle.std.specs.List.{AllByRecursion}
use Rattle.std.specs.Map.Iter.{deref_pair}
use Rattle.frame_stats.specs.Figures.{at_port}
use Rattle.frame_stats.proofs.port_counts.PortCounts.entries_fit.Given as goal

abbrev pub invariant-loop-gem : goal.invariant-loop-gem
invariant-loop-gem l = AllByRecursion (λ e. at_port l.self e.0 + at_port l.more e.0 < 2 ^ 64) (map deref_pair l.yielded)
