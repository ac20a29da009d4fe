use Rattle.std.proofs.Common.{arith}
use Rattle.explain_findings.proofs.edge.priorities_of.Goals as goal

pub push-requires : goal.push-requires
push-requires c = omega (arith, c.each.invariant.few, c.each-test.true)
