use Rattle.std.proofs.Common.{◌∙◌}
use Rattle.port_plan.proofs.compiled_table.CompiledTable.compile.Goals as goal

pub returns : goal.returns
returns c = λ n. c.compile_table.ensures ∙ c.settings_in.ensures n
