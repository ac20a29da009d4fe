use Rattle.batch_reports.proofs.fault.BatchFault.code.Goals as goal

pub returns-in-Stalled : goal.returns-in-Stalled
returns-in-Stalled c = rw c.in-Stalled.is
