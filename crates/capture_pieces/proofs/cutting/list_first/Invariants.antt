-- The frames are those listed and those left.
use Rattle.std.proofs.Common.{◌≡◌, ◌≤◌, ◌++◌, ◌-◌, length, map}
use Rattle.capture.specs.Records.{frames_in}
use Rattle.capture_pieces.proofs.cutting.list_first.Given as goal

abbrev pub invariant-loop-records : goal.invariant-loop-records
invariant-loop-records l = record {
  frames : map (λ frame. frame.now) l.list.items ++ frames_in l.order l.records ≡ frames_in l.order l.all;
  within : length l.list.items ≤ l.most;
}

abbrev pub decreases-loop-records : goal.decreases-loop-records
decreases-loop-records l = l.most - length l.list.items
