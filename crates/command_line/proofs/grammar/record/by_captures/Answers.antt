use Rattle.command_line.proofs.grammar.record.by_captures.Goals as goal

pub returns : goal.returns
returns c =
    let with_skew = c.with_arg-with_skew.ensures _ _ c.by_times.ensures c.several-skew.ensures.rule c.several-skew.ensures.local in
    let with_fcs = c.with_arg-with_fcs.ensures _ _ with_skew c.flag-fcs.ensures.rule c.flag-fcs.ensures.local in
    c.with_arg.ensures _ _ with_fcs c.flag-padded.ensures.rule c.flag-padded.ensures.local
