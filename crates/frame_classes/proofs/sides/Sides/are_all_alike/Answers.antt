use Rattle.frame_classes.proofs.Quiet.{both_along}
use Rattle.frame_classes.proofs.sides.Sides.are_all_alike.Goals as goal

pub returns : goal.returns
returns c =
    λ h.
    both_along c.args.self.now.sides.now c.args.self.now.rows.now c.args.left.now c.args.sought.now c.args.field c.args.other c.in-Some-Some.side.now
    c.in-Some-Some.next.now c.in-Some-Some.ensures.lookup.3.1 c.in-Some-Some.ensures'.lookup.3.1 (c.are_pairs_alike.ensures h)
