-- Bounded, so that a wrong body is refused at once.
use Rattle.std.proofs.Common.{arith, rules}
use Rattle.std.proofs.lemmas.Grind.{common_steps}
use Rattle.plan_publish.proofs.publisher.Publisher.publish.Goals as goal

pub returns-clause-published : goal.returns-clause-published
returns-clause-published c = search rules fits 100

pub returns-clause-told : goal.returns-clause-told
returns-clause-told c = grind (arith, common_steps)
