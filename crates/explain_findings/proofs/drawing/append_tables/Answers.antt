use Rattle.std.proofs.Common.{refl}
use Rattle.explain_findings.specs.Graph.{table_edge_of}
use Rattle.explain_findings.proofs.Growing.{indexed}
use Rattle.explain_findings.proofs.drawing.append_tables.Goals as goal

pub each-preserved : goal.each-preserved
each-preserved c = indexed (table_edge_of c.args.mib.now.entities) _ _ 0 _ _ _ _ c.each-test.true c.each.invariant refl c.in_ok-append_table_edge.ensures
