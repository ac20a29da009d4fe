use Rattle.batch_reports.proofs.fault.GatherFault.code.Goals as goal

pub returns-in-Missing : goal.returns-in-Missing
returns-in-Missing c = rw c.in-Missing.is
