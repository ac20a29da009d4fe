-- A treatment treats as its mixes do, and one that drops frames has none.
use Rattle.std.proofs.Common.{refl}
use Rattle.treatment.specs.Treatment.{treated_by}
use Rattle.treatment.proofs.Compiling.{compiled-asks, compiled-treats}
use Rattle.treatment.proofs.compiled.Treat.of.Goals as goal

pub returns-in-Discard-clause-treats : goal.returns-in-Discard-clause-treats
unfolding treated_by
returns-in-Discard-clause-treats c = λ tags dscp same range. rw c.in-Discard.is refl

pub returns-in-Retag-clause-treats : goal.returns-in-Retag-clause-treats
returns-in-Retag-clause-treats c =
    rw c.in-Retag.is
    (compiled-treats c.in-Retag.retag c.args.settings.now c.args.received c.of_retag.result (rw c.in-Retag.is at c.requires.fits) c.requires.two c.of_retag.ensures)

pub returns-in-Retag-clause-dscp : goal.returns-in-Retag-clause-dscp
returns-in-Retag-clause-dscp c =
    rw c.in-Retag.is (compiled-asks c.in-Retag.retag c.args.settings.now c.args.received c.of_retag.result c.of_retag.ensures)
