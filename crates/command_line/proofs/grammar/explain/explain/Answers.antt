use Rattle.command_line.proofs.grammar.explain.explain.Goals as goal

pub returns : goal.returns
returns c =
    let of_capture = c.with_arg-of_capture.ensures _ _ c.of_bytes.ensures c.optional-frames.ensures.rule c.optional-frames.ensures.local in
    c.with_arg.ensures _ _ of_capture c.numbered-frame.ensures.rule c.numbered-frame.ensures.local
