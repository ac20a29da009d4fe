use Rattle.batch_reports.proofs.gathering.gather_tallies.Goals as goal

pub returns-in-Ok-clause-tallies : goal.returns-in-Ok-clause-tallies
returns-in-Ok-clause-tallies c = c.in-Ok.ensures.gathered

pub returns-in-Ok-clause-counts : goal.returns-in-Ok-clause-counts
returns-in-Ok-clause-counts c = c.in-Ok.ensures.counts
