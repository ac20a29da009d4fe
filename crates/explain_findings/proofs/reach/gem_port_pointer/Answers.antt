use Rattle.std.proofs.Common.{Some, ap}
use Rattle.explain_findings.proofs.reach.gem_port_pointer.Goals as goal

pub returns-in-Some : goal.returns-in-Some
returns-in-Some c = rw (← c.in-Some.ensures) (ap Some (c.pointer_of_point.ensures c.args.number))
