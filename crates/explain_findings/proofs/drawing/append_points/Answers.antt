use Rattle.std.proofs.Common.{refl}
use Rattle.explain_findings.specs.Graph.{interwork_edge_of}
use Rattle.explain_findings.proofs.Growing.{indexed}
use Rattle.explain_findings.proofs.drawing.append_points.Goals as goal

pub each-preserved : goal.each-preserved
each-preserved c = indexed (interwork_edge_of c.args.mib.now.entities) _ _ 0 _ _ _ _ c.each-test.true c.each.invariant refl c.in_ok-append_interwork_edge.ensures
