use Rattle.std.proofs.Common.{◌≡◌, ℕ, ◌+◌, map}
use Rattle.std.specs.Map.Iter.{deref_pair}
use Rattle.frame_stats.specs.Ports.{in_map, NoneIsZero}
use Rattle.frame_stats.proofs.PortSums.{sum_at}
use Rattle.frame_stats.proofs.ports.add_all.Given as goal

abbrev pub invariant-loop-gem : goal.invariant-loop-gem
invariant-loop-gem l = record {
  added : (q : ℕ) → in_map l.ports q ≡ in_map l.fn.ports q + sum_at q (map deref_pair l.yielded);
  no_zeros : NoneIsZero l.fn.ports → NoneIsZero l.ports;
}
