use Rattle.std.proofs.Common.{◌++◌, ◌∙◌, List, ap, ℕ}
use Rattle.std.specs.List.{filter_map}
use Rattle.managed_entity.specs.Shown.{mapper_instance}
use Rattle.explain_findings.specs.Reach.{priorities}
use Rattle.explain_findings.specs.Graph.{priority_edge}
use Rattle.explain_findings.proofs.Edges.{all_priorities, at_priority_place}
use Rattle.explain_findings.proofs.Growing.{placed}
use Rattle.explain_findings.proofs.edge.append_priority_edges.Goals as goal

pub each-preserved : goal.each-preserved
each-preserved c =
    let f = priority_edge c.args.mib.now.entities (mapper_instance c.args.number c.args.mapper.now) in
    placed f priorities c.each.priority c.each.priority c.priority_edge.result _ _ _ (at_priority_place c.each.priority c.each-test.true) c.each.invariant
    c.priority_edge.ensures c.in_ok-append.ensures

pub returns : goal.returns
returns c =
    let f = priority_edge c.args.mib.now.entities (mapper_instance c.args.number c.args.mapper.now) in
    c.each.invariant ∙ ap (λ (ps : List ℕ). c.args.edges.now.items ++ filter_map f ps) (all_priorities c.each.priority c.each-test.false)
