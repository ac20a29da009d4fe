use Rattle.batch_reports.proofs.Arrival.{same_in_every_order, gathered_once}
use Rattle.batch_reports.proofs.law.law_of_arrival.Goals as goal

pub returns-clause-every_order : goal.returns-clause-every_order
returns-clause-every_order c = same_in_every_order

pub returns-clause-once : goal.returns-clause-once
returns-clause-once c = gathered_once
