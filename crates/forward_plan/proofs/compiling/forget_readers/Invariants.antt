use Rattle.port_plan.specs.Plan.{DoesNotRead}
use Rattle.forward_plan.proofs.Forgotten.{AreFirstForgotten}
use Rattle.forward_plan.proofs.compiling.forget_readers.Given as goal

abbrev pub invariant-loop-place : goal.invariant-loop-place
invariant-loop-place l = AreFirstForgotten (λ part. DoesNotRead l.class l.instance part.compiled) l.fn.mappers l.mappers l.place
