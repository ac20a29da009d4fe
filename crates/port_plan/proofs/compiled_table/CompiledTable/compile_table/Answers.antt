-- Bounded, so that a wrong body is refused at once.
use Rattle.std.proofs.Common.{rules}
use Rattle.port_plan.proofs.compiled_table.CompiledTable.compile_table.Goals as goal

pub compile_treats-self-inside-requires-clause-index : goal.compile_treats-self-inside-requires-clause-index
compile_treats-self-inside-requires-clause-index c = search rules fits 30

pub invariant_of-self : goal.invariant_of-self
invariant_of-self c = search rules fits 30

pub returns : goal.returns
returns c = search rules fits 30
