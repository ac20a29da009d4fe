-- Bounded where few lemmas do, so that a wrong body is refused at once.
use Rattle.std.proofs.Common.{rules}
use Rattle.managed_entity.proofs.write.create.Goals as goal

pub write-requires-clause-fits : goal.write-requires-clause-fits
write-requires-clause-fits g c = search rules fits 30

pub write-requires-clause-writable : goal.write-requires-clause-writable
write-requires-clause-writable g c = search rules fits 30

pub returns : goal.returns
returns g c = search rules
