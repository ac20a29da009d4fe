-- Bounded, so that a wrong body is refused at once.
use Rattle.std.proofs.Common.{rules}
use Rattle.managed_entity.proofs.mask.names.Goals as goal

pub returns : goal.returns
returns c = search rules fits 30
