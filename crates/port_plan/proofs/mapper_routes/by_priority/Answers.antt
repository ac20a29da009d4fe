use Rattle.std.proofs.Common.{Some}
use Rattle.managed_entity.specs.Shown.{mapper_instance}
use Rattle.port_plan.specs.Plan.{compiled_route}
use Rattle.port_plan.proofs.Routing.{eight}
use Rattle.port_plan.proofs.mapper_routes.by_priority.Goals as goal

pub returns : goal.returns
returns c = λ n.
    eight (compiled_route c.args.mib.now.entities (Some (mapper_instance n c.args.mapper.now))) _ _ _ _ _ _ _ _
    (c.compiled_route.ensures n) (c.compiled_route-2.ensures n) (c.compiled_route-3.ensures n) (c.compiled_route-4.ensures n)
    (c.compiled_route-5.ensures n) (c.compiled_route-6.ensures n) (c.compiled_route-7.ensures n) (c.compiled_route-8.ensures n)
