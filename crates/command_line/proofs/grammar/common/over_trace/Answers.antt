use Rattle.command_line.proofs.grammar.common.over_trace.Goals as goal

pub returns : goal.returns
returns c = λ name is.
    let of_trace = c.with_arg-of_trace.ensures _ _ is c.trace.ensures.rule c.trace.ensures.local in
    let up_to = c.with_arg-up_to.ensures _ _ of_trace c.until.ensures.rule c.until.ensures.local in
    c.with_arg.ensures _ _ up_to c.strict.ensures.rule c.strict.ensures.local
