use Rattle.script_digits.proofs.Characters.{digits_by_sums-both}
use Rattle.script_digits.proofs.write.digits_of.Goals as goal

pub returns-clause-high : goal.returns-clause-high
returns-clause-high c =
    rw (c.from.ensures, c.from-2.ensures) ((digits_by_sums-both c.args.byte c.ranges.byte.fits).0)

pub returns-clause-low : goal.returns-clause-low
returns-clause-low c =
    rw (c.from.ensures, c.from-2.ensures) ((digits_by_sums-both c.args.byte c.ranges.byte.fits).1)
