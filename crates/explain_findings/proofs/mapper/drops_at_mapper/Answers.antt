use Rattle.std.proofs.Common.{refl}
use Rattle.explain_findings.proofs.mapper.drops_at_mapper.Goals as goal

pub returns-in_err-port : goal.returns-in_err-port
returns-in_err-port c = rw (c.from_residual.ensures, ← c.in_err-port.ensures c.args.number) refl

pub returns-then-is_number : goal.returns-then-is_number
returns-then-is_number c = rw (← c.in_ok-port.ensures c.args.number, ← c.mapper_of_port.ensures, ← c.if-is_number.ensures) c.port_drops.ensures

pub returns-else-is_number : goal.returns-else-is_number
returns-else-is_number c = rw (← c.in_ok-port.ensures c.args.number, ← c.mapper_of_port.ensures, ← c.if-is_number.ensures) refl
