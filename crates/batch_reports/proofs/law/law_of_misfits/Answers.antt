use Rattle.batch_reports.specs.declared.batch.Report.{Report}
use Rattle.batch_reports.specs.declared.batch.Tally.{Tally}
use Rattle.batch_reports.proofs.Misfits.{misfits}
use Rattle.batch_reports.proofs.law.law_of_misfits.Goals as goal

pub returns-clause-reports : goal.returns-clause-reports
returns-clause-reports c = λ count given fault h. misfits (λ (r : Report). r.batch) count given fault h

pub returns-clause-tallies : goal.returns-clause-tallies
returns-clause-tallies c = λ count given fault h. misfits (λ (t : Tally). t.batch) count given fault h
