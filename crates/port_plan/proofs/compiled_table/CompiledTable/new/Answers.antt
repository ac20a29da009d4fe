use Rattle.std.proofs.Common.{arith, sym, rules}
use Rattle.std.proofs.lemmas.Bool.{true≢false}
use Rattle.port_plan.proofs.CompiledTables.{none_asks, treats_of_none}
use Rattle.port_plan.proofs.compiled_table.CompiledTable.new.Goals as goal

pub invariant_of-table : goal.invariant_of-table
invariant_of-table c = (
  omega (arith, c.in_ok-with_capacity.ensures.exact),
  treats_of_none _ _ _ c.in_ok-new.ensures c.in_ok-with_capacity.ensures.items,
  c.markings_of.ensures,
  λ unused. none_asks _ c.in_ok-with_capacity.ensures.items,
  λ used. absurd (true≢false (sym used)),
)

-- bounded, so that a wrong body is refused at once
pub returns : goal.returns
returns c = search rules fits 30
