use Rattle.bench_sight.proofs.Spelling.{same_bytes, same_digits}
use Rattle.bench_sight.proofs.digits.spell_the_same.Goals as goal

pub returns-else-eq : goal.returns-else-eq
returns-else-eq c bytes more is are = (
  λ yes. same_bytes c.args.one.now c.args.other.now bytes more is are (c.are_same_in_lower_case.ensures.0 yes),
  λ same. c.are_same_in_lower_case.ensures.1 (same_digits c.args.one.now c.args.other.now bytes more is are same),
)
