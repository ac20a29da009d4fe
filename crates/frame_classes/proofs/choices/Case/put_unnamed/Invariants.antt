use Rattle.std.proofs.Common.{◌≤◌, ◌+◌, ◌%◌, ◌<◌, ◌^◌, [], length}
use Rattle.std.specs.Prelude.{All}
use Rattle.frame_classes.specs.Choices.{is_named}
use Rattle.frame_classes.proofs.Several.{AreTried}
use Rattle.frame_classes.proofs.choices.Case.put_unnamed.Given as goal

-- of those that were looked at the ones that aren't named, which are different
abbrev pub invariant-loop-number : goal.invariant-loop-number
invariant-loop-number l =
    record {
      few : length l.choices.items ≤ length l.self.sides.now.sides.now;
      fit : All (λ c. c < 2 ^ 12) l.choices.items;
      tried : AreTried (λ k. (k + 1) % 4096) (is_named l.self.rows.now l.self.left.now l.field) [] l.choices.items l.number;
    }
