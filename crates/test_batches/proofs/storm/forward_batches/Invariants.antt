use Rattle.std.proofs.Common.{◌≡◌}
use Rattle.plan_publish.specs.Lane.{home_of}
use Rattle.test_batches.proofs.storm.forward_batches.Given as goal

abbrev pub invariant-loop-batch : goal.invariant-loop-batch
invariant-loop-batch l = home_of l.lane ≡ home_of l.fn.lane
