use Rattle.std.proofs.Common.{arith, sym}
use Rattle.frame_meaning.proofs.Numbers.{gem_port_pointer_number}
use Rattle.port_plan.proofs.mapper_routes.ctp_of.Goals as goal

pub returns : goal.returns
returns c = λ n. sym (gem_port_pointer_number n c.args.point.now (omega arith))
