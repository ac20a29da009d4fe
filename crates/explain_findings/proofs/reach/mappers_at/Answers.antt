use Rattle.std.proofs.Common.{[]}
use Rattle.mib_state.specs.Attached.{mapper_of_port}
use Rattle.explain_findings.proofs.Growing.{indexed}
use Rattle.explain_findings.proofs.reach.mappers_at.Goals as goal

pub each-preserved : goal.each-preserved
each-preserved c =
    indexed (mapper_of_port c.args.mib.now.entities) c.args.ports.now _ 0 _ [] _ _ c.each-test.true c.each.invariant c.mapper_of_port.ensures c.in_ok-append.ensures
