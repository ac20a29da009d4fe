use Rattle.std.proofs.Common.{arith, ◌∙◌, refl}
use Rattle.port_plan.proofs.Routing.{pointer_number}
use Rattle.port_plan.proofs.mapper_routes.compiled_route.Goals as goal

pub returns : goal.returns
returns c = λ n.
    let pointer = c.pointer-interwork.ensures ∙ pointer_number n c.args.priority c.args.mapper.now c.requires (omega (arith, c.pointer-interwork.ensures, c.pointer-interwork.type_inv)) in
    rw (c.ctp_behind.ensures, c.gem_port_of.ensures n, pointer) refl
