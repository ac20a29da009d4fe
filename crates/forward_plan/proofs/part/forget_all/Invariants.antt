use Rattle.forward_plan.proofs.Forgotten.{AreFirstForgotten}
use Rattle.forward_plan.proofs.part.forget_all.Given as goal

abbrev pub invariant-loop-place : goal.invariant-loop-place
invariant-loop-place g l = AreFirstForgotten (λ part. ⊥) l.fn.parts l.parts l.place
