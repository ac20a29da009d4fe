use Rattle.plan_publish.specs.Edition.{shows}
use Rattle.plan_publish.proofs.lane.Lane.enter.Given as goal

abbrev pub ghosts-enter_with : goal.ghosts-enter_with
ghosts-enter_with a = record { passes = λ e. shows e a.learnt.now }
