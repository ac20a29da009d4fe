use Rattle.frame_classes.proofs.Silent.{alike_along}
use Rattle.frame_classes.proofs.sides.Sides.are_alike.Goals as goal

pub returns-in-Some-Some : goal.returns-in-Some-Some
returns-in-Some-Some c =
    λ h.
    alike_along c.args.self.now.sides.now c.args.one c.args.other c.in-Some-Some.side.now c.in-Some-Some.next.now c.args.left.now c.args.field _ _
    c.in-Some-Some.ensures.lookup.3.1 c.in-Some-Some.ensures'.lookup.3.1 c.first-row.ensures c.first-beside.ensures (c.are_first_alike.ensures h)
