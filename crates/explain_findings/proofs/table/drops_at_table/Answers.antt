use Rattle.std.proofs.Common.{refl}
use Rattle.explain_findings.proofs.table.drops_at_table.Goals as goal

pub returns-in_err-port : goal.returns-in_err-port
returns-in_err-port c = rw (c.from_residual.ensures, ← c.in_err-port.ensures c.args.number) refl

pub returns-then-is_alone_at : goal.returns-then-is_alone_at
returns-then-is_alone_at c = rw (← c.in_ok-port.ensures c.args.number, ← c.if-is_alone_at.ensures) c.port_drops.ensures

pub returns-else-is_alone_at : goal.returns-else-is_alone_at
returns-else-is_alone_at c = rw (← c.in_ok-port.ensures c.args.number, ← c.if-is_alone_at.ensures) refl
