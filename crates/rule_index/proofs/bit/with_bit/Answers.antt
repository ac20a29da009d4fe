use Rattle.rule_index.proofs.Moving.{open-clear, open-set}
use Rattle.rule_index.proofs.bit.with_bit.Goals as goal

pub returns-then-set : goal.returns-then-set
returns-then-set c = rw (c.bit.ensures, c.bit-then-set.ensures, c.if-set.true) (open-set c.args.mask c.args.place)

pub returns-else-set : goal.returns-else-set
returns-else-set c = rw (c.bit.ensures, c.if-set.false) (open-clear c.args.mask c.args.place)
