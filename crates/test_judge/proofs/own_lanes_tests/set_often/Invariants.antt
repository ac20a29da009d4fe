use Rattle.std.proofs.Common.{◌≡◌}
use Rattle.test_judge.proofs.own_lanes_tests.set_often.Given as goal

abbrev pub invariant-loop-count : goal.invariant-loop-count
invariant-loop-count g l = l.control.home ≡ l.initial.control.home
