use Rattle.run_lanes.proofs.run.run_lanes_over.Goals as goal

pub returns-clause-accepted : goal.returns-clause-accepted
returns-clause-accepted g c = c.in_ok-settled.ensures.run.accepted_is

pub returns-clause-run : goal.returns-clause-run
returns-clause-run g c = c.in_ok-settled.ensures.run.run
