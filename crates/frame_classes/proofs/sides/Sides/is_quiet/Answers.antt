use Rattle.frame_classes.proofs.Quiet.{quiet_after, quiet_before}
use Rattle.frame_classes.proofs.sides.Sides.is_quiet.Goals as goal

pub returns-then-are_all_alike : goal.returns-then-are_all_alike
returns-then-are_all_alike c =
    λ h.
    quiet_before c.args.self.now.sides.now c.args.self.now.rows.now c.args.left.now c.args.sought.now c.args.field c.requires.three (c.are_all_alike.ensures h)

pub returns-else-are_all_alike : goal.returns-else-are_all_alike
returns-else-are_all_alike c =
    λ h.
    quiet_after c.args.self.now.sides.now c.args.self.now.rows.now c.args.left.now c.args.sought.now c.args.field c.requires.three (c.are_all_alike-else-are_all_alike.ensures h)
