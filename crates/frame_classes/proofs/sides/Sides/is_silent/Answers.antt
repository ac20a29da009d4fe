use Rattle.std.proofs.Common.{◌≡◌, arith, length}
use Rattle.frame_classes.proofs.Silent.{silent_after, silent_before, silent_two}
use Rattle.frame_classes.proofs.sides.Sides.is_silent.Goals as goal

pub returns-in-2 : goal.returns-in-2
returns-in-2 c = λ h. silent_two c.args.self.now.sides.now c.args.field c.args.left.now c.in-2.is (c.are_alike.ensures h)

pub returns-then-are_alike : goal.returns-then-are_alike
returns-then-are_alike c =
    λ h.
    let three : length c.args.self.now.sides.now ≡ 3 = omega (arith, c.requires.beside.three, c.requires.beside.some) in
    silent_before c.args.self.now.sides.now c.args.field c.args.left.now three (c.are_alike-in_default.ensures h)

pub returns-else-are_alike : goal.returns-else-are_alike
returns-else-are_alike c =
    λ h.
    let three : length c.args.self.now.sides.now ≡ 3 = omega (arith, c.requires.beside.three, c.requires.beside.some) in
    silent_after c.args.self.now.sides.now c.args.field c.args.left.now three (c.are_alike-else-are_alike.ensures h)
