use Rattle.std.proofs.Common.{◌≡◌, ◌&&◌, Bool, ap, arith, length, sym, ◌∙◌}
use Rattle.frame_classes.proofs.FirstRows.{not_shown, shown_by_three, shown_by_two}
use Rattle.frame_classes.proofs.sides.Sides.is_shown.Goals as goal

pub returns-in-2 : goal.returns-in-2
returns-in-2 c = shown_by_two c.args.self.now.sides.now c.args.values.now c.is_apart.result c.in-2.is c.is_apart.ensures

pub returns-then-is_apart : goal.returns-then-is_apart
returns-then-is_apart c =
    let three : length c.args.self.now.sides.now ≡ 3 = omega (arith, c.requires.beside.three, c.requires.beside.some) in
    ap (λ (x : Bool). x && c.is_apart-then-is_apart.result) (sym c.if-is_apart.true)
    ∙ shown_by_three c.args.self.now.sides.now c.args.values.now c.is_apart-in_default.result c.is_apart-then-is_apart.result three c.is_apart-in_default.ensures
    c.is_apart-then-is_apart.ensures

pub returns-else-is_apart : goal.returns-else-is_apart
returns-else-is_apart c =
    let three : length c.args.self.now.sides.now ≡ 3 = omega (arith, c.requires.beside.three, c.requires.beside.some) in
    not_shown c.args.self.now.sides.now c.args.values.now c.is_apart-in_default.result three c.if-is_apart.false c.is_apart-in_default.ensures
