-- Bounded, so that a wrong body is refused at once.
use Rattle.std.proofs.Common.{rules}
use Rattle.port_plan.proofs.port_plan.PortPlan.forward.Goals as goal

pub verdict-requires-in_default-clause-received : goal.verdict-requires-in_default-clause-received
verdict-requires-in_default-clause-received c = search rules fits 30
