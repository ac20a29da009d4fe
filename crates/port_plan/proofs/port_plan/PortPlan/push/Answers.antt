-- Bounded, so that a wrong body is refused at once.
use Rattle.std.proofs.Common.{rules}
use Rattle.port_plan.proofs.port_plan.PortPlan.push.Goals as goal

pub push_read-requires-clause-received : goal.push_read-requires-clause-received
push_read-requires-clause-received c = search rules fits 30
