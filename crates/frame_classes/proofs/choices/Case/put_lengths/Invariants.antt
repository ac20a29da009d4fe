use Rattle.std.proofs.Common.{◌≤◌}
use Rattle.arrayvec.specs.ArrayVec.{array_vec_len}
use Rattle.frame_classes.proofs.Lengths.{AreCovered}
use Rattle.frame_classes.proofs.choices.Case.put_lengths.Given as goal

-- no more than were looked at, and each of these or one that is like it
abbrev pub invariant-loop-length : goal.invariant-loop-length
invariant-loop-length l =
    record {
      few : array_vec_len l.choices ≤ l.length-index;
      covered : AreCovered l.self.rows.now l.self.left.now l.self.values.now l.least l.choices.items l.length-index;
    }
