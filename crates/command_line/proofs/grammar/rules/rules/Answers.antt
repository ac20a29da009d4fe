use Rattle.std.proofs.Common.{rules, codes}
use Rattle.command_line.proofs.grammar.rules.rules.Goals as goal

pub returns : goal.returns
returns c =
    let of_traces = c.over_traces.ensures (codes "rules") (search rules, search rules) in
    c.with_arg.ensures _ _ of_traces c.port.ensures.rule c.port.ensures.local
