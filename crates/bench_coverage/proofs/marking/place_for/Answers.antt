use Rattle.std.proofs.Common.{arith, inr}
use Rattle.bench_coverage.proofs.marking.place_for.Goals as goal

pub returns : goal.returns
returns c =
    inr (record {
      before = λ k d less. let low = c.place_of.ensures.before k d less in omega (arith, low, c.number.ensures.value);
      behind = λ d within. let high = c.place_of.ensures.behind d within in omega (arith, high, c.number.ensures.value);
    })
