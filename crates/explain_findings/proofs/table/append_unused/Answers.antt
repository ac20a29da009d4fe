use Rattle.explain_findings.specs.Findings.{unused_entry}
use Rattle.explain_findings.proofs.Growing.{indexed}
use Rattle.explain_findings.proofs.table.append_unused.Goals as goal

pub each-preserved : goal.each-preserved
each-preserved c =
    indexed (unused_entry c.args.number c.args.table.now) _ _ 0 _ _ _ _ c.each-test.true c.each.invariant c.unused_entry.ensures c.in_ok-append.ensures
