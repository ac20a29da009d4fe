use Rattle.std.proofs.Common.{refl}
use Rattle.explain_findings.proofs.reach.pointers.Goals as goal

pub returns : goal.returns
returns c = λ n.
    rw (
      c.pointer_of.ensures n,
      c.pointer_of-2.ensures n,
      c.pointer_of-3.ensures n,
      c.pointer_of-4.ensures n,
      c.pointer_of-5.ensures n,
      c.pointer_of-6.ensures n,
      c.pointer_of-7.ensures n,
      c.pointer_of-8.ensures n,
    ) refl
