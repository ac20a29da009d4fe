use Rattle.std.proofs.Common.{◌∙◌}
use Rattle.port_plan.proofs.compiled_table.CompiledTable.follow.Goals as goal

pub returns : goal.returns
returns c = λ n. c.follow_table.ensures ∙ c.settings_in.ensures n
