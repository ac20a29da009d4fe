use Rattle.std.proofs.Common.{◌∙◌}
use Rattle.batch_reports.proofs.Totals.{figure_of_all, why_of_reports}
use Rattle.batch_reports.proofs.gathering.gather.Goals as goal

pub returns-in-Ok-clause-counts : goal.returns-in-Ok-clause-counts
returns-in-Ok-clause-counts c = record {
  figures = λ f. c.in-Ok.ensures.counts f ∙ figure_of_all f c.in-Ok.reports.items;
}

pub returns-in-Err-clause-fault : goal.returns-in-Err-clause-fault
returns-in-Err-clause-fault c = why_of_reports c.args.count c.args.reports.items c.in-Err.fault c.in-Err.ensures.fault

pub returns-in-Ok-clause-reports : goal.returns-in-Ok-clause-reports
returns-in-Ok-clause-reports c = c.in-Ok.ensures.gathered
