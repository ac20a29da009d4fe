use Rattle.std.proofs.Common.{◌≡◌}
use Rattle.test_judge.proofs.own_lanes_tests.ask_all.Given as goal

abbrev pub invariant-loop-digits : goal.invariant-loop-digits
invariant-loop-digits g l = l.control.home ≡ l.initial.control.home
