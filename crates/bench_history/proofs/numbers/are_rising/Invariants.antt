-- Whether the words that are left name numbers that ascend from one on is whether all do.
use Rattle.std.proofs.Common.{◌≡◌}
use Rattle.std.specs.Option.{is_some}
use Rattle.bench_history.specs.Among.{numbers_in}
use Rattle.bench_history.proofs.Rising.{characters_left, numbers_left}
use Rattle.bench_history.proofs.numbers.are_rising.Given as goal

abbrev pub invariant-loop-rest : goal.invariant-loop-rest
invariant-loop-rest l = is_some (numbers_in l.text) ≡ is_some (numbers_left l.least l.rest)

abbrev pub decreases-loop-rest : goal.decreases-loop-rest
decreases-loop-rest l = characters_left l.rest
