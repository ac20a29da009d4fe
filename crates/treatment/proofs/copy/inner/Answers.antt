use Rattle.std.proofs.Common.{◌∙◌}
use Rattle.treatment.proofs.Tags.{last_is_inner}
use Rattle.treatment.proofs.copy.inner.Goals as goal

pub returns-in-len1-up : goal.returns-in-len1-up
returns-in-len1-up c = c.last-item.is ∙ last_is_inner c.args.received.now c.last-item.result c.in-len1-up.len_at_least
