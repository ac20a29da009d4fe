use Rattle.std.proofs.Common.{◌≡◌, drop}
use Rattle.std.specs.Prelude.{find}
use Rattle.explain_findings.specs.Findings.{has_port_id}
use Rattle.explain_findings.proofs.gem_port.first_of_port_id.Given as goal

abbrev pub invariant-each : goal.invariant-each
invariant-each l = find (has_port_id l.mib.entities l.port_id) (drop l.number-index l.numbers) ≡ find (has_port_id l.mib.entities l.port_id) l.numbers
