-- Bounded, so that a wrong body is refused at once.
use Rattle.std.proofs.Common.{rules}
use Rattle.managed_entity.proofs.class.Class.descriptions.Goals as goal

pub returns-in-GemPort : goal.returns-in-GemPort
returns-in-GemPort c = search rules fits 30
