use Rattle.rule_index.proofs.Moving.{close, close-fits}
use Rattle.rule_index.proofs.bit.without_bit.Goals as goal

pub overflow_add-result : goal.overflow_add-result
overflow_add-result c = rw c.bit-below.ensures (record { fits = close-fits c.args.mask c.args.place c.ranges.mask.fits c.requires })

pub returns : goal.returns
returns c = rw c.bit-below.ensures (close c.args.mask c.args.place)
