use Rattle.std.proofs.Common.{◌≡◌, suc, arith}
use Rattle.mib_state.proofs.held.HeldInstance.attribute.Goals as goal

pub returns-clause-value : goal.returns-clause-value
returns-clause-value c =
    let next : c.args.n ≡ suc c.in_ok-place.place = omega (arith, c.in_ok-place.ensures) in
    rw (← c.self.view_is, next) (rw c.self.invariant.there at c.attribute_at.ensures.value)
