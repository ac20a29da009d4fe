use Rattle.std.proofs.Common.{[]}
use Rattle.explain_findings.specs.Reach.{gem_port_pointer}
use Rattle.explain_findings.proofs.Growing.{indexed}
use Rattle.explain_findings.proofs.reach.gem_ports_of.Goals as goal

pub each-preserved : goal.each-preserved
each-preserved c =
    indexed (gem_port_pointer c.args.mib.now.entities) c.args.points.now _ 0 _ [] _ _ c.each-test.true c.each.invariant c.gem_port_pointer.ensures c.in_ok-append.ensures
