use Rattle.mib_state.specs.Touch.{AreSame}
use Rattle.forward_plan.proofs.Kept.{behind_same, same_plan}
use Rattle.onu_unit.proofs.unit.Unit.answer.Goals as goal

pub invariant_of-self : goal.invariant_of-self
invariant_of-self c =
    let old = c.self.inside.desk.mib.entities in
    let new = c.carry_out-carried.new.self.mib.entities in
    let plan = c.self.inside.plan in
    let same : AreSame old new = rw c.in-Nothing.is at c.carry_out-carried.ensures.changes in
    (behind_same old new plan same c.self.invariant.0, λ is. same_plan old new plan same (c.self.invariant.1 is))
