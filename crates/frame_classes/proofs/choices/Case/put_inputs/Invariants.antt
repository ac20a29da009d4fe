use Rattle.std.proofs.Common.{◌≤◌, ◌+◌, ◌<◌, ◌^◌, ℕ, length, take}
use Rattle.std.specs.Prelude.{All, Contains, map}
use Rattle.frame_classes.specs.Told.{side_by}
use Rattle.frame_classes.proofs.Types.{Covers}
use Rattle.frame_classes.proofs.choices.Case.put_inputs.Given as goal

-- what was there stays, and one is like the input TPID of each side that was looked at
abbrev pub invariant-loop-side : goal.invariant-loop-side
invariant-loop-side l =
    record {
      few : length l.choices.items ≤ length l.initial.choices.items + l.side-index;
      kept : (c : ℕ) → Contains l.initial.choices.items c → Contains l.choices.items c;
      fit : All (λ c. c < 2 ^ 16) l.initial.choices.items → All (λ c. c < 2 ^ 16) l.choices.items;
      cover : All (λ side. Covers (map side_by l.self.sides.now.sides.now) (length l.self.sides.now.sides.now) l.self.rows.now l.self.left.now
          l.self.values.now l.field l.choices.items side.settings.input_tpid) (take l.side-index (map side_by l.self.sides.now.sides.now));
    }
