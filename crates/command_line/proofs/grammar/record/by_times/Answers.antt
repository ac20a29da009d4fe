use Rattle.command_line.proofs.grammar.record.by_times.Goals as goal

pub returns : goal.returns
returns c =
    let with_tpid = c.with_arg-with_tpid.ensures _ _ c.of_captures.ensures c.several-tpid.ensures.rule c.several-tpid.ensures.local in
    let with_wait = c.with_arg-with_wait.ensures _ _ with_tpid c.milliseconds-wait.ensures.rule c.milliseconds-wait.ensures.local in
    let with_lost = c.with_arg-with_lost.ensures _ _ with_wait c.milliseconds-lost.ensures.rule c.milliseconds-lost.ensures.local in
    let with_late = c.with_arg-with_late.ensures _ _ with_lost c.flag-late.ensures.rule c.flag-late.ensures.local in
    c.with_arg.ensures _ _ with_late c.flag-early.ensures.rule c.flag-early.ensures.local
