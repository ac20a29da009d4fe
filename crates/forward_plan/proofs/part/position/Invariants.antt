use Rattle.forward_plan.specs.Parts.{NoneIsOf}
use Rattle.forward_plan.proofs.part.position.Given as goal

abbrev pub invariant-loop-at : goal.invariant-loop-at
invariant-loop-at g l = NoneIsOf l.parts l.from l.at l.of
