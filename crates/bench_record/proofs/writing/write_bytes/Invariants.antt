use Rattle.std.proofs.Common.{length}
use Rattle.bench_record.proofs.Parts.{IsWritten}
use Rattle.bench_record.proofs.writing.write_bytes.Given as goal

-- what is left completes what is written
abbrev pub invariant-loop-rest : goal.invariant-loop-rest
invariant-loop-rest g l = IsWritten (g.W.Write.contents l.fn.writer) (g.W.Write.contents l.writer) l.rest l.bytes

abbrev pub decreases-loop-rest : goal.decreases-loop-rest
decreases-loop-rest g l = length l.rest
