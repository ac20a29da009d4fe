use Rattle.std.proofs.Common.{◌≡◌, false, length}
use Rattle.frame_classes.specs.Choices.{is_named}
use Rattle.frame_classes.proofs.Several.{covered_kept}
use Rattle.frame_classes.proofs.choices.Case.put_vids_by_name.Goals as goal

pub returns-clause-others : goal.returns-clause-others
returns-clause-others c = λ v small free.
    covered_kept (length c.args.self.now.sides.now.sides.now)
    (λ d. is_named c.args.self.now.rows.now c.args.self.now.left.now c.args.field d ≡ false) c.put_unnamed.new.choices.items
    c.put_named.new.choices.items v c.put_named.ensures.kept (c.put_unnamed.ensures.others v small free)
