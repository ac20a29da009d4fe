use Rattle.std.proofs.Common.{◌<◌, arith, sym, ◌∙◌}
use Rattle.std.specs.Prelude.{slice_index}
use Rattle.port_plan.proofs.Places.{of_ipv4, of_ipv6, of_others, of_short, six_bits, two_behind}
use Rattle.port_plan.proofs.dscp.place_of_dscp.Goals as goal
use Rattle.port_plan.proofs.dscp.place_of_dscp.Goals.{then-ethertype-eq-IPV4, else-ethertype-eq-IPV4}

pub returns-then-rest-lt4-clause-value : goal.returns-then-rest-lt4-clause-value
returns-then-rest-lt4-clause-value c = rw (of_short c.args.rest.now c.if-rest-lt4.true)

pub returns-then-rest-lt4-clause-six_bits : goal.returns-then-rest-lt4-clause-six_bits
returns-then-rest-lt4-clause-six_bits c = six_bits c.args.rest.now (omega (arith, c.type_inv.rest 3))

pub returns-then-ethertype-clause-value : goal.returns-then-ethertype-clause-value
returns-then-ethertype-clause-value c =
    let rest = c.args.rest.now in
    let byte : slice_index rest 3 < 256 = omega (arith, c.type_inv.rest 3) in
    let behind = two_behind rest c.read_u16-behind.result c.read_u16-behind.ensures in
    elim c.if-ethertype-eq-IPV4.branch [
      | then-ethertype-eq-IPV4 w ↦
          let is = of_ipv4 rest c.read_u16-behind.result c.if-rest-lt4.false (sym c.requires.ethertype ∙ w.if-ethertype-eq-IPV4.true) byte behind in
          rw (is, c.from-dscp.ensures, w.shift-is)
      | else-ethertype-eq-IPV4 w ↦
          let is = of_ipv6 rest c.read_u16-behind.result c.if-rest-lt4.false (λ e. w.if-ethertype-eq-IPV4.false (c.requires.ethertype ∙ e)) (rw c.requires.ethertype at c.if-ethertype.true) byte behind in
          rw (is, c.from-dscp.ensures, w.shift-is)
    ]

pub returns-then-ethertype-clause-six_bits : goal.returns-then-ethertype-clause-six_bits
returns-then-ethertype-clause-six_bits c = six_bits c.args.rest.now (omega (arith, c.type_inv.rest 3))

pub returns-else-ethertype-clause-value : goal.returns-else-ethertype-clause-value
returns-else-ethertype-clause-value c = rw (of_others c.args.rest.now (rw c.requires.ethertype at c.if-ethertype.false))

pub returns-else-ethertype-clause-six_bits : goal.returns-else-ethertype-clause-six_bits
returns-else-ethertype-clause-six_bits c = six_bits c.args.rest.now (omega (arith, c.type_inv.rest 3))
