use Rattle.command_line.proofs.grammar.diff.diff.Goals as goal

pub returns : goal.returns
returns c =
    let at_port = c.with_arg-at_port.ensures _ _ c.of_sides.ensures c.any_port-port.ensures.rule c.any_port-port.ensures.local in
    let long = c.with_arg-long.ensures _ _ at_port c.least-bytes.ensures.rule c.least-bytes.ensures.local in
    c.with_arg.ensures _ _ long c.json.ensures.rule c.json.ensures.local
