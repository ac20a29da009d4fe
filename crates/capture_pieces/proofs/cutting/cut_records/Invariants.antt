-- Whole batches were passed, or all records.
use Rattle.std.proofs.Common.{length}
use Rattle.capture_pieces.proofs.Starts.{Cutting}
use Rattle.capture_pieces.proofs.cutting.cut_records.Given as goal

abbrev pub invariant-loop-records : goal.invariant-loop-records
invariant-loop-records l = Cutting l.order l.size l.all l.starts.items l.count l.records

abbrev pub decreases-loop-records : goal.decreases-loop-records
decreases-loop-records l = length l.records
