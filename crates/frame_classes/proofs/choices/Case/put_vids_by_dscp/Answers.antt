use Rattle.std.proofs.Common.{length}
use Rattle.frame_rows.specs.Source.{dscp_in}
use Rattle.frame_classes.specs.Choices.{IsUnnamed}
use Rattle.frame_classes.proofs.Several.{covered_kept}
use Rattle.frame_classes.proofs.choices.Case.put_vids_by_dscp.Goals as goal

pub returns-clause-others : goal.returns-clause-others
returns-clause-others c = λ v small free.
    covered_kept (length c.args.self.now.sides.now.sides.now)
    (IsUnnamed c.args.self.now.rows.now c.args.self.now.left.now c.args.field c.args.packet (dscp_in c.args.packet v))
    c.put_each_dscp.new.choices.items c.put_named.new.choices.items v c.put_named.ensures.kept (c.put_each_dscp.ensures.others v small free)
