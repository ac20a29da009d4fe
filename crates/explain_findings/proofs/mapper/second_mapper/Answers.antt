use Rattle.std.proofs.Common.{refl}
use Rattle.explain_findings.proofs.mapper.second_mapper.Goals as goal

pub returns-in_err-port : goal.returns-in_err-port
returns-in_err-port c = rw (c.from_residual.ensures, ← c.in_err-port.ensures c.args.number) refl

pub returns-in_err-in_force : goal.returns-in_err-in_force
returns-in_err-in_force c =
    rw (c.from_residual-in_err-in_force.ensures, ← c.in_ok-port.ensures c.args.number, ← c.mapper_of_port.ensures, ← c.in_err-in_force.ensures) refl

pub returns : goal.returns
returns c = rw (← c.in_ok-port.ensures c.args.number, ← c.mapper_of_port.ensures, ← c.in_ok-in_force.ensures) refl
