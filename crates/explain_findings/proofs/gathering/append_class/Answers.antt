use Rattle.explain_findings.specs.Findings.{instance_findings}
use Rattle.explain_findings.proofs.Growing.{joined}
use Rattle.explain_findings.proofs.gathering.append_class.Goals as goal

pub each-preserved : goal.each-preserved
each-preserved c = joined (instance_findings c.args.mib.now.entities c.args.class) _ _ 0 _ _ _ c.each-test.true c.each.invariant c.in_ok-append_instance.ensures
