use Rattle.std.proofs.Common.{sym}
use Rattle.frame_classes.proofs.KnownClasses.{class_known}
use Rattle.frame_classes.proofs.sides.Sides.known_class.Goals as goal

pub returns-then-is_ending_known : goal.returns-then-is_ending_known
returns-then-is_ending_known c =
    class_known c.args.self.now.sides.now c.args.side c.in-Some-Some.rows.now c.args.field c.args.values.now c.args.left.now c.in-Some-Some.row.now
    c.class.result c.requires.left c.in-Some-Some.ensures'.lookup.3.1 c.in-Some-Some.ensures (sym c.if-asks_nothing.ensures)
    (c.is_ending_known.ensures c.if-is_ending_known.true) c.class.ensures
