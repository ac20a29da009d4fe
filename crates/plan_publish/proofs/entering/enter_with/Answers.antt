use Rattle.std.proofs.Common.{rules}
use Rattle.plan_publish.proofs.Keeps.{enters}
use Rattle.plan_publish.proofs.entering.enter_with.Goals as goal

pub enter_as-requires : goal.enter_as-requires
enter_as-requires g c = enters g.J.Tests.passes _ _

-- an answer of its own, so that no other is looked for where a wrong body breaks it
pub returns-clause-holds : goal.returns-clause-holds
returns-clause-holds c = search rules
