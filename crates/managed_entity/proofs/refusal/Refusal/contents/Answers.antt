-- Bounded, so that a wrong body is refused at once.
use Rattle.std.proofs.Common.{rules}
use Rattle.managed_entity.proofs.refusal.Refusal.contents.Goals as goal

pub returns-in-AttributesFailed : goal.returns-in-AttributesFailed
returns-in-AttributesFailed c = search rules fits 30
