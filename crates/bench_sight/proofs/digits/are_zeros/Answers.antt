use Rattle.std.proofs.Common.{arith, refl}
use Rattle.bench_sight.proofs.Spelling.{zero_bytes, zero_digits}
use Rattle.bench_sight.proofs.digits.are_zeros.Goals as goal

pub returns-then-digit-ne48 : goal.returns-then-digit-ne48
returns-then-digit-ne48 c bytes is = (
  λ no. cc,
  λ zeros. absurd (c.if-digit-ne48.true (zero_digits c.args.digits.now bytes is zeros c.loop-digit.digit-index (omega arith))),
)

pub returns : goal.returns
returns c bytes is = (λ yes. zero_bytes c.args.digits.now bytes is (λ k lt. c.loop-digit.invariant k (omega (arith, lt))), λ zeros. refl)
