use Rattle.std.proofs.Common.{◌≤◌, ◌+◌, ◌<◌, ◌^◌, length}
use Rattle.std.specs.Prelude.{All}
use Rattle.frame_rows.specs.Source.{bits_by}
use Rattle.frame_classes.specs.Choices.{is_named}
use Rattle.frame_classes.proofs.Several.{AreTried}
use Rattle.frame_classes.proofs.choices.Case.put_dscp.Given as goal

-- of those that were looked at the ones that aren't named, which are different
abbrev pub invariant-loop-other : goal.invariant-loop-other
invariant-loop-other l =
    record {
      few : length l.choices.items ≤ length l.initial.choices.items + length l.self.sides.now.sides.now;
      fit : All (λ c. c < 2 ^ 12) l.initial.choices.items → All (λ c. c < 2 ^ 12) l.choices.items;
      tried : AreTried (λ k. bits_by l.packet l.dscp k) (is_named l.self.rows.now l.self.left.now l.field) l.initial.choices.items l.choices.items l.other;
    }
