use Rattle.std.proofs.Common.{◌∙◌}
use Rattle.frame_classes.proofs.FirstRows.{tells}
use Rattle.frame_classes.proofs.sides.Sides.classes.Goals as goal

pub returns : goal.returns
returns c =
    c.of.ensures
    ∙ tells c.args.self.now.sides.now c.args.values.now c.class-first.result c.class-second.result c.class-third.result c.requires.beside.three
    c.class-first.ensures c.class-second.ensures c.class-third.ensures
