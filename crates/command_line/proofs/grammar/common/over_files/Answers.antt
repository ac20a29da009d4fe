use Rattle.command_line.proofs.grammar.common.over_files.Goals as goal

pub returns : goal.returns
returns c = λ name is.
    let over_trace = c.with_arg-over_trace.ensures _ _ is c.trace.ensures.rule c.trace.ensures.local in
    let over_files = c.with_arg-over_files.ensures _ _ over_trace c.file-frames.ensures.rule c.file-frames.ensures.local in
    c.with_arg.ensures _ _ over_files c.port.ensures.rule c.port.ensures.local
