use Rattle.forward_plan.proofs.Kept.{brought, moved_by_swap}
use Rattle.forward_plan.proofs.part.bring.Goals as goal

pub returns-in-Some-clause-there : goal.returns-in-Some-clause-there
returns-in-Some-clause-there g c told =
    let found = c.in-Some.ensures in
    let (part, held, of) = found.part in
    brought c.args.parts.now c.swap.new.self c.args.place c.in-Some.at part found.within.0 found.within.1 c.swap.ensures.after held c.args.number of

pub returns-in-Some-clause-moved : goal.returns-in-Some-clause-moved
returns-in-Some-clause-moved g c =
    let found = c.in-Some.ensures in
    let (part, held, of) = found.part in
    moved_by_swap c.args.parts.now c.swap.new.self c.args.place c.in-Some.at part found.within.0 found.within.1 c.swap.ensures.after held

pub returns-in-Some-position-clause-moved : goal.returns-in-Some-position-clause-moved
returns-in-Some-position-clause-moved g c =
    let found = c.in-Some-position.ensures in
    let (part, held, of) = found.part in
    moved_by_swap c.args.parts.now c.swap-in-Some-position.new.self c.args.place c.in-Some-position.at part found.within.0 found.within.1 c.swap-in-Some-position.ensures.after held
