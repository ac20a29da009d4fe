use Rattle.std.proofs.Common.{◌<◌, ◌^◌, arith}
use Rattle.frame_classes.proofs.TypeChoices.{fit_more}
use Rattle.frame_classes.proofs.choices.Case.put_named_type_at.Goals as goal

pub returns-in-Some-clause-fit : goal.returns-in-Some-clause-fit
returns-in-Some-clause-fit c =
    let small : c.in-Some.ethertype < 2 ^ 16 = omega arith in
    fit_more c.args.choices.now.items c.put_once.new.choices.items c.in-Some.ethertype small c.put_once.ensures.only
