use Rattle.command_line.proofs.grammar.record.recording.Goals as goal

pub returns : goal.returns
returns c =
    let with_sources = c.with_arg-with_sources.ensures _ _ c.by_captures.ensures c.flag-sources.ensures.rule c.flag-sources.ensures.local in
    let with_out = c.with_arg-with_out.ensures _ _ with_sources c.out.ensures.rule c.out.ensures.local in
    c.with_arg.ensures _ _ with_out c.flag-strict.ensures.rule c.flag-strict.ensures.local
