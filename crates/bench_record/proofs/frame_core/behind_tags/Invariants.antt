use Rattle.std.proofs.Common.{◌≡◌, length}
use Rattle.bench_record.specs.Cores.{behind_tags}
use Rattle.bench_record.proofs.frame_core.behind_tags.Given as goal

-- what is left has the same behind its tags
abbrev pub invariant-loop-rest : goal.invariant-loop-rest
invariant-loop-rest l = behind_tags l.tpids l.rest ≡ behind_tags l.tpids l.bytes

abbrev pub decreases-loop-rest : goal.decreases-loop-rest
decreases-loop-rest l = length l.rest
