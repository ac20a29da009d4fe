use Rattle.std.proofs.Common.{◌≡◌, take}
use Rattle.std.specs.List.{flat_map}
use Rattle.explain_findings.specs.Reach.{pointers_of}
use Rattle.explain_findings.proofs.reach.points_of.Given as goal

abbrev pub invariant-each : goal.invariant-each
invariant-each l = l.list.items ≡ flat_map (pointers_of l.mib.entities) (take l.number-index l.mappers)
