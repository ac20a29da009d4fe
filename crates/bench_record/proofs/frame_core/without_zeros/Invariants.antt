use Rattle.std.proofs.Common.{◌≡◌, length}
use Rattle.bench_record.specs.Cores.{without_zeros}
use Rattle.bench_record.proofs.frame_core.without_zeros.Given as goal

-- what is left is the same without the zeros that end it
abbrev pub invariant-loop-rest : goal.invariant-loop-rest
invariant-loop-rest l = without_zeros l.rest ≡ without_zeros l.bytes

abbrev pub decreases-loop-rest : goal.decreases-loop-rest
decreases-loop-rest l = length l.rest
