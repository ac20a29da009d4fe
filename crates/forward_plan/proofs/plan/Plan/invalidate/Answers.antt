use Rattle.forward_plan.proofs.Kept.{behind_same}
use Rattle.forward_plan.proofs.plan.Plan.invalidate.Goals as goal

pub returns-in-Nothing : goal.returns-in-Nothing
returns-in-Nothing c old new touch is = behind_same old new c.args.self.now (rw c.in-Nothing.is at touch) is
