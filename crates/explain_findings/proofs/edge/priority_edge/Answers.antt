use Rattle.std.proofs.Common.{refl}
use Rattle.explain_findings.proofs.edge.priority_edge.Goals as goal

pub returns-in-Some : goal.returns-in-Some
returns-in-Some c = rw (← c.in-Some.ensures c.args.number) c.joined_edge.ensures

pub returns-in-None : goal.returns-in-None
returns-in-None c = rw (← c.in-None.ensures c.args.number) refl
