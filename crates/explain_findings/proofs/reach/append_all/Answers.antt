use Rattle.std.proofs.Common.{None, refl}
use Rattle.explain_findings.proofs.Growing.{indexed}
use Rattle.explain_findings.proofs.reach.append_all.Goals as goal

pub each-preserved : goal.each-preserved
each-preserved c = indexed (λ number. number) _ _ None _ _ _ _ c.each-test.true c.each.invariant refl c.in_ok-append.ensures
