use Rattle.std.proofs.Common.{arith}
use Rattle.bench_history.proofs.Spelled.{twice_as_many}
use Rattle.bench_history.proofs.digits.Digits.len.Goals as goal

pub returns : goal.returns
returns c = rw (← c.self.view_is) (omega (arith, twice_as_many c.self.inside.digits.now c.self.invariant.0))
