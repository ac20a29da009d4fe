use Rattle.std.proofs.Common.{◌≡◌, length, arith, refl}
use Rattle.bench_sight.proofs.Spelling.{lower_at, same_lower}
use Rattle.bench_sight.proofs.digits.are_same_in_lower_case.Goals as goal

pub returns-then-one-i : goal.returns-then-one-i
returns-then-one-i c = (λ no. cc, λ same. absurd (c.if-one-i.true (lower_at c.args.one.now c.args.other.now same c.loop-i.i (omega arith))))

pub returns : goal.returns
returns c =
    let long : length c.args.one.now ≡ length c.args.other.now = omega arith in
    (λ yes. same_lower c.args.one.now c.args.other.now long (λ k lt. c.loop-i.invariant k (omega (arith, lt))), λ same. refl)
