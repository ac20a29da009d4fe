use Rattle.std.proofs.Common.{◌∙◌, sym}
use Rattle.migration_check.proofs.Numbers.{found_more}
use Rattle.migration_check.proofs.same.are_mappers_same.Goals as goal

pub loop-number-preserved : goal.loop-number-preserved
loop-number-preserved c =
    let n = c.loop-number.number in
    found_more c.args.one.now.entities.mappers c.args.other.now.entities.mappers n c.loop-number.invariant
    (sym c.mapper.ensures ∙ (c.is_mapper_same.ensures c.if-not-is_mapper_same.false n ∙ c.mapper-in-loop-number.ensures))
