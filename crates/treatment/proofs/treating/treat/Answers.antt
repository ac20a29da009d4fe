use Rattle.std.proofs.Common.{◌∙◌, sym}
use Rattle.tag_view.specs.Dscp.{dscp_of}
use Rattle.treatment.specs.Treatment.{treated_by}
use Rattle.treatment.proofs.Tags.{treated_entry}
use Rattle.treatment.proofs.treating.treat.Goals as goal

pub returns-in-Discard-clause-value : goal.returns-in-Discard-clause-value
unfolding treated_by
returns-in-Discard-clause-value c = rw c.in-Discard.is

pub returns-in-Discard-clause-of_entry : goal.returns-in-Discard-clause-of_entry
unfolding treated_by
returns-in-Discard-clause-of_entry c =
    λ entry is. treated_entry entry _ c.args.settings.now c.args.frame.now.tags (dscp_of c.args.frame.now.rest) (sym c.in-Discard.is ∙ is.treatment)

pub returns-in-Retag-clause-of_entry : goal.returns-in-Retag-clause-of_entry
returns-in-Retag-clause-of_entry c =
    λ entry is. c.retagged.ensures.value
    ∙ treated_entry entry _ c.args.settings.now c.args.frame.now.tags (dscp_of c.args.frame.now.rest) (sym c.in-Retag.is ∙ is.treatment)
