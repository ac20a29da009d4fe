use Rattle.std.proofs.Common.{arith, refl}
use Rattle.std.proofs.lemmas.List.{same_lists}
use Rattle.forward_plan.proofs.naming.are_same.Goals as goal

pub returns : goal.returns
returns c = (
  λ told. same_lists c.args.one.now c.args.other.now c.if-one-other.false (λ k d within. c.loop-place.invariant k d (omega (arith, within, c.loop-place-test.false))),
  λ same. refl,
)
