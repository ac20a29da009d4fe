use Rattle.std.proofs.Common.{rules, codes}
use Rattle.command_line.proofs.grammar.mib.mib.Goals as goal

pub returns : goal.returns
returns c = c.over_traces.ensures (codes "mib") (search rules, search rules)
