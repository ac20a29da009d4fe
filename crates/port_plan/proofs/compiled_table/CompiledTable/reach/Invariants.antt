use Rattle.std.proofs.Common.{◌≡◌}
use Rattle.port_plan.proofs.compiled_table.CompiledTable.reach.Given as goal

abbrev pub invariant-loop : goal.invariant-loop
invariant-loop l = l.self.table.settings ≡ l.initial.self.table.settings
