use Rattle.std.proofs.Common.{◌≡◌, ◌<◌, ◌+◌, ◌%◌, ◌^◌, ℕ, false}
use Rattle.std.specs.Prelude.{map}
use Rattle.frame_classes.specs.Choices.{is_spare}
use Rattle.frame_classes.specs.Told.{side_by}
use Rattle.frame_classes.proofs.choices.Case.put_spare_type.Given as goal

-- something asks for each type that was tried
abbrev pub invariant-loop-number : goal.invariant-loop-number
invariant-loop-number l =
    record {
      same : l.choices ≡ l.initial.choices;
      asked : (k : ℕ) → k < l.number
          → is_spare (map side_by l.self.sides.now.sides.now) l.self.rows.now l.self.left.now l.field ((0x88b5 + k) % 2 ^ 16) ≡ false;
    }
