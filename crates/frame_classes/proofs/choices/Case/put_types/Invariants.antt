use Rattle.std.proofs.Common.{◌≤◌, ◌<◌, ◌+◌, ◌^◌, length, take}
use Rattle.std.specs.Prelude.{All, map}
use Rattle.arrayvec.specs.ArrayVec.{array_vec_len}
use Rattle.frame_classes.specs.Told.{side_by}
use Rattle.frame_classes.proofs.Types.{Covers, known_types}
use Rattle.frame_classes.proofs.choices.Case.put_types.Given as goal

-- no more than were looked at, and one that is like each
abbrev pub invariant-loop-ethertype : goal.invariant-loop-ethertype
invariant-loop-ethertype l =
    record {
      few : array_vec_len l.choices ≤ l.ethertype-index + 1;
      fit : All (λ c. c < 2 ^ 16) l.choices.items;
      cover : All (Covers (map side_by l.self.sides.now.sides.now) (length l.self.sides.now.sides.now) l.self.rows.now l.self.left.now l.self.values.now
          l.field l.choices.items) (take l.ethertype-index known_types);
    }
