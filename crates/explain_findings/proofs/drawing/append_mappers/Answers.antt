use Rattle.explain_findings.specs.Graph.{mapper_edges_of}
use Rattle.explain_findings.proofs.Growing.{joined}
use Rattle.explain_findings.proofs.drawing.append_mappers.Goals as goal

pub each-preserved : goal.each-preserved
each-preserved c = joined (mapper_edges_of c.args.mib.now.entities) _ _ 0 _ _ _ c.each-test.true c.each.invariant c.in_ok-append_mapper_edges.ensures
