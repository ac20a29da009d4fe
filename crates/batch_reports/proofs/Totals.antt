-- Figures of the verdicts of all reports.
use Rattle.std.proofs.Common.{◌≡◌, ◌≤◌, ◌^◌, ℕ, List, [], ◌∷◌, sym, subst, arith}
use Rattle.std.specs.List.{sum_by}
use Rattle.std.proofs.lemmas.List.Sums.{sum_by-cons}
use Rattle.frame_stats.specs.Figures.{Figure, figure, counted}
use Rattle.frame_stats.proofs.FigureSums.{figure-append, figure-none}
use Rattle.batch_reports.specs.declared.batch.Report.{Report}
use Rattle.batch_reports.specs.declared.fault.GatherFault.{GatherFault}
use Rattle.batch_reports.specs.declared.fault.GatherFault.TheVariants.{Double, Stranger, Missing, NoMemory, CountFull}
use Rattle.batch_reports.specs.Gathering.{verdicts_of, SumPasses, IsWhy, IsWhyNot}

-- it is the sum of the reports' counts
pub figure_of_all : (f : Figure) (reports : List Report) → sum_by (λ (r : Report). counted r.counts f) reports ≡ figure f (verdicts_of reports)
figure_of_all f [] = sym (figure-none f)
figure_of_all f (r ∷ rs) =
    let more = sum_by-cons (λ (q : Report). counted q.counts f) r rs in
    let rest = figure_of_all f rs in
    let this = r.exact.figures f in
    let both = figure-append f r.verdicts.items (verdicts_of rs) in
    omega (arith, more, rest, this, both)

-- a sum that passes 64 bits is one of the verdicts
pub why_of_reports : (count : ℕ) (given : List Report) (fault : GatherFault) → IsWhyNot (λ (r : Report). r.batch) (SumPasses (λ (r : Report). r.counts)) count given fault → IsWhy count given fault
why_of_reports count given (Double n) why = why
why_of_reports count given (Stranger n) why = why
why_of_reports count given (Missing n) why = why
why_of_reports count given NoMemory why = why
why_of_reports count given CountFull why =
    let passed = why.3 in
    (why.0, why.1, why.2, (passed.0, subst (λ (n : ℕ). 2 ^ 64 ≤ n) (figure_of_all passed.0 why.1) passed.1))
