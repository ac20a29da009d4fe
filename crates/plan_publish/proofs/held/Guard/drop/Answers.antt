use Rattle.std.proofs.Common.{Some, ap}
use Rattle.plan_publish.specs.declared.rule.View.{View}
use Rattle.plan_publish.proofs.held.Guard.drop.Goals as goal

pub returns-clause-lists : goal.returns-clause-lists
returns-clause-lists g c = ap (λ (v : View). Some v.held) c.back.ensures
