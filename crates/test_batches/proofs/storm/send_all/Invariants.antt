use Rattle.std.proofs.Common.{◌≡◌}
use Rattle.test_batches.proofs.storm.send_all.Given as goal

abbrev pub invariant-loop-request : goal.invariant-loop-request
invariant-loop-request g l = l.control.home ≡ l.fn.control.home
