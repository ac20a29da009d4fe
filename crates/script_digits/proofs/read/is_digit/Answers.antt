use Rattle.script_digits.proofs.Characters.{digit_by_differences}
use Rattle.script_digits.proofs.read.is_digit.Goals as goal

pub returns : goal.returns
returns c = digit_by_differences c.args.character c.ranges.character.fits
