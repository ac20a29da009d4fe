use Rattle.std.proofs.Common.{◌≤◌, ◌+◌, arith}
use Rattle.frame_classes.proofs.Besides.{beside, few_beside}
use Rattle.frame_classes.proofs.sides.Sides.of.Goals as goal

pub overflow_add-third : goal.overflow_add-third
overflow_add-third c =
    let few : c.rows_at-first.result + c.rows_at.result + c.rows_at-2.result ≤ 402 =
    few_beside c.args.sides.now c.args.rows.now c.rows_at-first.result c.rows_at.result c.rows_at-2.result c.requires.three c.requires.together
    c.requires.few c.rows_at-first.ensures c.rows_at.ensures c.rows_at-2.ensures in
    omega (arith, few)

pub returns-clause-beside : goal.returns-clause-beside
returns-clause-beside c =
    beside c.args.sides.now c.args.rows.now c.rows_at-first.result c.rows_at.result c.rows_at-2.result c.requires.some c.requires.three
    c.requires.together c.requires.few c.requires.fit c.requires.marked c.rows_at-first.ensures c.rows_at.ensures c.rows_at-2.ensures
