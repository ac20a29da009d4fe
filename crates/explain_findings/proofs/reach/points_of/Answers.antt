use Rattle.std.proofs.Common.{[]}
use Rattle.explain_findings.specs.Reach.{pointers_of}
use Rattle.explain_findings.proofs.Growing.{joined}
use Rattle.explain_findings.proofs.reach.points_of.Goals as goal

pub each-preserved : goal.each-preserved
each-preserved c = joined (pointers_of c.args.mib.now.entities) c.args.mappers.now _ 0 [] _ _ c.each-test.true c.each.invariant c.in_ok-append_pointers.ensures
