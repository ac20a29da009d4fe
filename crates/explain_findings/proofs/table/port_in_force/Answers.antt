use Rattle.std.proofs.Common.{refl}
use Rattle.explain_findings.proofs.Growing.{then_is}
use Rattle.explain_findings.proofs.table.port_in_force.Goals as goal

pub returns-in_err-port : goal.returns-in_err-port
returns-in_err-port c = rw (c.from_residual-in_err-port.ensures, ← c.in_ok-mapper.ensures, ← c.in_err-port.ensures c.args.number) refl

pub returns : goal.returns
returns c =
    rw (c.then_some.ensures, c.is_number.ensures, c.mapper_of_port.ensures, ← c.in_ok-mapper.ensures, ← c.in_ok-port.ensures c.args.number) (then_is _ _)
