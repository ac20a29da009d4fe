use Rattle.std.proofs.Common.{refl}
use Rattle.explain_findings.proofs.gem_port.has_port_id.Goals as goal

pub returns-in-Some : goal.returns-in-Some
returns-in-Some c = rw (← c.in-Some.ensures, c.id_of.ensures c.args.number) refl
