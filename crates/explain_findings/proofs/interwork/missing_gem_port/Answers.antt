use Rattle.std.proofs.Common.{refl}
use Rattle.explain_findings.proofs.interwork.missing_gem_port.Goals as goal

pub returns-in-Some : goal.returns-in-Some
returns-in-Some c = rw (← c.pointer_of_point-pointer.ensures c.args.number, ← c.in-Some.ensures) refl

pub returns-in-None : goal.returns-in-None
returns-in-None c = rw (← c.pointer_of_point-pointer.ensures c.args.number, ← c.in-None.ensures) refl
