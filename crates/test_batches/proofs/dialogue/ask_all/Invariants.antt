use Rattle.std.proofs.Common.{◌≡◌}
use Rattle.test_batches.proofs.dialogue.ask_all.Given as goal

abbrev pub invariant-loop-asked : goal.invariant-loop-asked
invariant-loop-asked g l = l.control.home ≡ l.initial.control.home
