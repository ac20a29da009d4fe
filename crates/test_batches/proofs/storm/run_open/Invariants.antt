use Rattle.std.proofs.Common.{Some}
use Rattle.test_batches.proofs.storm.run_open.Given as goal

abbrev pub ghosts-run_as : goal.ghosts-run_as
ghosts-run_as g a = record { home = Some a.control.now.home }
