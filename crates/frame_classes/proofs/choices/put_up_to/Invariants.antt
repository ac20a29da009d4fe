use Rattle.std.proofs.Common.{◌≡◌, length}
use Rattle.std.specs.List.{range_with_len}
use Rattle.frame_classes.proofs.choices.put_up_to.Given as goal

-- those that were looked at
abbrev pub invariant-loop-number : goal.invariant-loop-number
invariant-loop-number l =
    record {
      count : length l.choices.items ≡ l.number;
      same : l.choices.items ≡ range_with_len 0 l.number;
    }
