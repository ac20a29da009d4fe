use Rattle.std.proofs.Common.{◌<◌, arith}
use Rattle.std.specs.Prelude.{map}
use Rattle.frame_rows.specs.Field.{end_of, value_at}
use Rattle.frame_rows.specs.declared.field.Field.TheVariants.{Length}
use Rattle.frame_classes.specs.Told.{side_by}
use Rattle.frame_classes.proofs.Standing.{absent_choices}
use Rattle.frame_classes.proofs.choices.Case.put_choices.Goals as goal

pub returns-then-get-end : goal.returns-then-get-end
returns-then-get-end c =
    let is = c.get.ensures.value in
    let end = c.end.ensures in
    let short : value_at Length c.args.self.now.values.now < end_of c.args.field = omega (arith, is, end) in
    absent_choices (map side_by c.args.self.now.sides.now.sides.now) c.args.least c.args.field c.args.self.now.values.now c.args.self.now.left.now
    c.put_only.new.choices.items short c.put_only.ensures

pub returns-in-FirstPriority : goal.returns-in-FirstPriority
returns-in-FirstPriority c = c.put_numbers.ensures c.args.least

pub returns-in-FirstEligible : goal.returns-in-FirstEligible
returns-in-FirstEligible c = c.put_numbers-in-FirstEligible.ensures c.args.least

pub returns-in-FirstType : goal.returns-in-FirstType
returns-in-FirstType c = c.put_types.ensures c.args.least

pub returns-in-FirstVid : goal.returns-in-FirstVid
returns-in-FirstVid c = c.put_vids.ensures c.args.least
