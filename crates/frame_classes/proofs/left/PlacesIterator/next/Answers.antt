use Rattle.std.proofs.Common.{◌≡◌, ◌+◌, [], arith, length, sym, ◌∙◌}
use Rattle.std.specs.Prelude.{filter, nat_le}
use Rattle.frame_classes.proofs.left.PlacesIterator.next.Goals as goal

pub returns-in_default-clause-steps : goal.returns-in_default-clause-steps
returns-in_default-clause-steps c =
    let none : c.args.self.now ≡ [] = sym c.self.view_is ∙ c.in_default.ensures.none in
    (none, none)

pub returns-clause-steps : goal.returns-clause-steps
returns-clause-steps c = sym c.self.view_is ∙ c.in-Some.ensures.first

pub returns-clause-goes : goal.returns-clause-goes
returns-clause-goes c =
    let now = returns-clause-steps c in
    let left : length c.args.self.now ≡ length (filter (nat_le (c.in-Some.place + 1)) c.self.inside.left.now) + 1 = rw now (omega arith) in
    record { on = λ _. (tt, tt, omega (arith, left)); keeps = tt; rests = λ _. tt }
