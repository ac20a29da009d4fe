use Rattle.std.proofs.Common.{◌≡◌, ◌+◌, ◌≤◌, ◌++◌, false, length}
use Rattle.std.specs.Prelude.{filter}
use Rattle.frame_rows.specs.Row.{row_admits}
use Rattle.frame_classes.specs.Choices.{test_at}
use Rattle.frame_classes.proofs.splitting.Splitting.narrowed.Given as goal

-- what is left of the places that were looked at, and of the others
abbrev pub invariant-loop-place : goal.invariant-loop-place
invariant-loop-place l =
    let test = test_at (λ row. row_admits row l.field l.value) false l.self.sides.now.rows.now in
    record {
      left : l.narrower ++ filter test l.place-iterator ≡ filter test l.left;
      few : length l.narrower + length l.place-iterator ≤ 402;
    }
