-- Those up to the next one were passed.
use Rattle.std.proofs.Common.{◌≤◌, ◌-◌}
use Rattle.capture_pieces.specs.Walk.{Passed}
use Rattle.capture_pieces.proofs.cutting.pass_records.Given as goal

abbrev pub invariant-loop-next : goal.invariant-loop-next
invariant-loop-next l = record {
  passed : Passed l.order l.first l.next l.fn.records l.next l.records;
  within : l.next ≤ l.end;
}

abbrev pub decreases-loop-next : goal.decreases-loop-next
decreases-loop-next l = l.end - l.next
