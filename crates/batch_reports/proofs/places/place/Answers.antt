use Rattle.std.proofs.Common.{ap, inl, arith}
use Rattle.batch_reports.specs.declared.fault.GatherFault.TheVariants.{Stranger}
use Rattle.batch_reports.proofs.places.place.Goals as goal

pub returns-then-at-len-clause-misfit : goal.returns-then-at-len-clause-misfit
returns-then-at-len-clause-misfit g c = inl (ap Stranger c.batch-batch.ensures, omega (arith, c.args.slots.now.ok.0))
