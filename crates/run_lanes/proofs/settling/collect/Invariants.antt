use Rattle.plan_publish.specs.Told.{told_list}
use Rattle.run_lanes.specs.Settling.{Collected}
use Rattle.run_lanes.proofs.settling.collect.Given as goal

abbrev pub invariant-loop-done : goal.invariant-loop-done
invariant-loop-done l = Collected (told_list l.told) l.yielded l.all.items
