use Rattle.command_line.proofs.grammar.common.over_traces.Goals as goal

pub returns : goal.returns
returns c = λ name is.
    let of_traces = c.with_arg-of_traces.ensures _ _ is c.traces.ensures.rule c.traces.ensures.local in
    let up_to = c.with_arg-up_to.ensures _ _ of_traces c.until.ensures.rule c.until.ensures.local in
    let strictly = c.with_arg-strictly.ensures _ _ up_to c.strict.ensures.rule c.strict.ensures.local in
    c.with_arg.ensures _ _ strictly c.json.ensures.rule c.json.ensures.local
