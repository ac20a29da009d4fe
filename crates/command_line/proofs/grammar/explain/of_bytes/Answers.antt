use Rattle.std.proofs.Common.{rules, codes}
use Rattle.command_line.proofs.grammar.explain.of_bytes.Goals as goal

pub returns : goal.returns
returns c =
    let of_trace = c.over_trace.ensures (codes "explain") (search rules, search rules) in
    let shown = c.with_arg-shown.ensures _ _ of_trace c.json.ensures.rule c.json.ensures.local in
    let at_port = c.with_arg-at_port.ensures _ _ shown c.port.ensures.rule c.port.ensures.local in
    let each = c.with_arg-each.ensures _ _ at_port c.all.ensures.rule c.all.ensures.local in
    c.with_arg.ensures _ _ each c.bytes.ensures.rule c.bytes.ensures.local
