use Rattle.std.proofs.Common.{[]}
use Rattle.mib_state.specs.Attached.{table_of_port}
use Rattle.explain_findings.proofs.Growing.{indexed}
use Rattle.explain_findings.proofs.reach.tables_at.Goals as goal

pub each-preserved : goal.each-preserved
each-preserved c =
    indexed (table_of_port c.args.mib.now.entities) c.args.ports.now _ 0 _ [] _ _ c.each-test.true c.each.invariant c.table_of_port.ensures c.in_ok-append.ensures
