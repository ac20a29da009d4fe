use Rattle.managed_entity.proofs.Zeros.{padded_is}
use Rattle.managed_entity.proofs.padding.padded.Goals as goal

pub returns : goal.returns
returns g c = rw c.copy_from_slice.ensures.after (padded_is g.row.N c.args.bytes.now c.requires)
