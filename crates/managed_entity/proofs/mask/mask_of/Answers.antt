-- Bounded, so that a wrong body is refused at once.
use Rattle.managed_entity.specs.Mask.{mask_of}
use Rattle.std.proofs.Common.{rules}
use Rattle.managed_entity.proofs.mask.mask_of.Goals as goal

pub returns : goal.returns
unfolding mask_of
returns c = search rules fits 30
