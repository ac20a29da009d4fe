use Rattle.std.proofs.Common.{◌≡◌, ap}
use Rattle.std.specs.Prelude.{Err}
use Rattle.batch_reports.specs.declared.fault.BatchFault.TheVariants.{TooMany}
use Rattle.batch_reports.proofs.batch.report_batch.Goals as goal

pub returns-in-Ok-clause-too_many : goal.returns-in-Ok-clause-too_many
returns-in-Ok-clause-too_many g c = λ n. (λ is. absurd (let e : ⊥ = cc in e), λ more. absurd (let is = (c.in-Ok.ensures.too_many n).1 more in let e : ⊥ = cc in e))

pub returns-clause-too_many : goal.returns-clause-too_many
returns-clause-too_many g c = λ n.
    let told = c.in-Err.ensures.too_many n in (
      λ is. told.0 (let same : c.in-Err.fault ≡ TooMany n = cc in ap Err same),
      λ more. let is = told.1 more in let same : c.in-Err.fault ≡ TooMany n = cc in ap Err same,
    )
