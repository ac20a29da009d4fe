use Rattle.std.proofs.Common.{◌≡◌, ◌++◌, drop, take}
use Rattle.std.specs.Prelude.{map}
use Rattle.bench_history.specs.Doubts.{raised}
use Rattle.bench_history.proofs.doubts.raise_each.Given as goal

abbrev pub invariant-loop-i : goal.invariant-loop-i
invariant-loop-i l = l.doubts ≡ map (raised l.frames) (take l.i l.fn.doubts) ++ drop l.i l.fn.doubts
