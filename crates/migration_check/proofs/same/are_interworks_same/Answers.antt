use Rattle.std.proofs.Common.{◌∙◌, sym}
use Rattle.migration_check.proofs.Numbers.{found_more}
use Rattle.migration_check.proofs.same.are_interworks_same.Goals as goal

pub loop-number-preserved : goal.loop-number-preserved
loop-number-preserved c =
    let n = c.loop-number.number in
    found_more c.args.one.now.entities.interworks c.args.other.now.entities.interworks n c.loop-number.invariant
    (sym c.interwork.ensures ∙ (c.is_interwork_same.ensures c.if-not-is_interwork_same.false n ∙ c.interwork-in-loop-number.ensures))
