use Rattle.std.proofs.Common.{◌≡◌, take}
use Rattle.std.specs.List.{filter_map}
use Rattle.explain_findings.specs.Reach.{gem_port_pointer}
use Rattle.explain_findings.proofs.reach.gem_ports_of.Given as goal

abbrev pub invariant-each : goal.invariant-each
invariant-each l = l.list.items ≡ filter_map (gem_port_pointer l.mib.entities) (take l.number-index l.points)
