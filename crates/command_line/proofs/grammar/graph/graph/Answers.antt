use Rattle.std.proofs.Common.{rules, codes}
use Rattle.command_line.proofs.grammar.graph.graph.Goals as goal

pub returns : goal.returns
returns c =
    let of_trace = c.over_trace.ensures (codes "graph") (search rules, search rules) in
    c.with_arg.ensures _ _ of_trace c.any_port-port.ensures.rule c.any_port-port.ensures.local
