use Rattle.std.proofs.Common.{◌≡◌, ℕ, ◌+◌, map}
use Rattle.std.specs.Map.Iter.{deref_pair}
use Rattle.frame_stats.specs.Figures.{at_port}
use Rattle.frame_stats.proofs.PortSums.{sum_at}
use Rattle.frame_stats.proofs.port_counts.PortCounts.add_entries.Given as goal

abbrev pub invariant-loop-gem : goal.invariant-loop-gem
invariant-loop-gem l = (q : ℕ) → at_port l.self q ≡ at_port l.fn.self q + sum_at q (map deref_pair l.yielded)
