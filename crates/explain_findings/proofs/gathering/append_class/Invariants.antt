use Rattle.std.proofs.Common.{◌≡◌, ◌++◌, take}
use Rattle.std.specs.List.{flat_map}
use Rattle.explain_findings.specs.Findings.{instance_findings}
use Rattle.explain_findings.proofs.gathering.append_class.Given as goal

abbrev pub invariant-each : goal.invariant-each
invariant-each l = l.findings.items ≡ l.fn.findings.items ++ flat_map (instance_findings l.mib.entities l.class) (take l.number-index l.number-items)
