use Rattle.batch_reports.specs.Gathering.{SumPasses}
use Rattle.batch_reports.proofs.Filling.{why}
use Rattle.batch_reports.proofs.gathering.in_order_with_counts.Goals as goal

pub returns-in-Err-clause-fault : goal.returns-in-Err-clause-fault
returns-in-Err-clause-fault g c =
    why g.T.Numbered.number (SumPasses g.T.Numbered.counts_of) c.args.count c.args.items.items c.in-Err.fault c.in-Err.ensures.misfit
