use Rattle.std.proofs.Common.{rules}
use Rattle.frame_classes.proofs.sides.are_first_alike.Goals as goal

pub returns-then-asks_nothing-2 : goal.returns-then-asks_nothing-2
returns-then-asks_nothing-2 c =
    λ h.
    record {
      r = c.in-Some-Some.row.now;
      r' = c.in-Some-Some.beside.now;
      first = search rules;
      first' = search rules;
      nothing = search rules;
      nothing' = search rules;
      seen = c.are_seen_alike.ensures h;
    }
