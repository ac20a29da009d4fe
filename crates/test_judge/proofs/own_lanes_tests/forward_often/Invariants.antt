use Rattle.std.proofs.Common.{◌≡◌}
use Rattle.plan_publish.specs.Lane.{home_of}
use Rattle.test_judge.proofs.own_lanes_tests.forward_often.Given as goal

abbrev pub invariant-loop : goal.invariant-loop
invariant-loop g l = home_of l.lane ≡ home_of l.initial.lane
