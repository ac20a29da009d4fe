-- Bounded, so that a wrong body is refused at once.
use Rattle.std.proofs.Common.{rules}
use Rattle.port_plan.proofs.port_plan.PortPlan.outcome.Goals as goal

pub outcome_read-requires-in_default-clause-received : goal.outcome_read-requires-in_default-clause-received
outcome_read-requires-in_default-clause-received c = search rules fits 30
