use Rattle.std.proofs.Common.{refl}
use Rattle.explain_findings.proofs.drops.routes.Goals as goal

pub returns : goal.returns
returns c = λ n.
    rw (
      c.gem_port_of.ensures n,
      c.gem_port_of-2.ensures n,
      c.gem_port_of-3.ensures n,
      c.gem_port_of-4.ensures n,
      c.gem_port_of-5.ensures n,
      c.gem_port_of-6.ensures n,
      c.gem_port_of-7.ensures n,
      c.gem_port_of-8.ensures n,
    ) refl
