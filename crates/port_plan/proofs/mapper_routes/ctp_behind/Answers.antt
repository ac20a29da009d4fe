use Rattle.std.proofs.Common.{ap, ◌∙◌}
use Rattle.port_plan.specs.Plan.{ctp_behind}
use Rattle.port_plan.proofs.mapper_routes.ctp_behind.Goals as goal

pub returns-in-Some : goal.returns-in-Some
returns-in-Some c = c.ctp_of.ensures c.args.interwork ∙ ap ctp_behind (rw c.in-Some.is at c.interwork.ensures)
