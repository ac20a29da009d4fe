use Rattle.std.proofs.Common.{◌≡◌, ◌++◌, take}
use Rattle.std.specs.List.{filter_map}
use Rattle.managed_entity.specs.Shown.{mapper_instance}
use Rattle.explain_findings.specs.Reach.{priorities}
use Rattle.explain_findings.specs.Graph.{priority_edge}
use Rattle.explain_findings.proofs.edge.append_priority_edges.Given as goal

abbrev pub invariant-each : goal.invariant-each
invariant-each l =
    l.edges.items ≡ l.fn.edges.items ++ filter_map (priority_edge l.mib.entities (mapper_instance l.number l.mapper)) (take l.priority priorities)
