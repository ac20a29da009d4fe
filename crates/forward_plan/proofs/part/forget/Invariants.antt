use Rattle.std.proofs.Common.{◌≡◌, ◌≢◌, Some, map}
use Rattle.forward_plan.proofs.Forgotten.{AreFirstForgotten}
use Rattle.forward_plan.proofs.part.forget.Given as goal

abbrev pub invariant-loop-place : goal.invariant-loop-place
invariant-loop-place g l = record {
  forgotten : AreFirstForgotten (λ part. part.of ≢ Some l.number) l.fn.parts l.parts l.place;
  compiled : map (λ part. part.compiled) l.parts ≡ map (λ part. part.compiled) l.fn.parts;
}
