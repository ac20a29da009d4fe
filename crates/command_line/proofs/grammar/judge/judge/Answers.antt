use Rattle.command_line.proofs.grammar.judge.judge.Goals as goal

pub returns : goal.returns
returns c =
    let of_repeats = c.with_arg-of_repeats.ensures _ _ c.by_settings.ensures c.repeats.ensures.rule c.repeats.ensures.local in
    let of_start = c.with_arg-of_start.ensures _ _ of_repeats c.start.ensures.rule c.start.ensures.local in
    let of_all = c.with_arg-of_all.ensures _ _ of_start c.all.ensures.rule c.all.ensures.local in
    let of_most = c.with_arg-of_most.ensures _ _ of_all c.most.ensures.rule c.most.ensures.local in
    let of_coverage = c.with_arg-of_coverage.ensures _ _ of_most c.coverage.ensures.rule c.coverage.ensures.local in
    let of_bytes = c.with_arg-of_bytes.ensures _ _ of_coverage c.least_covered.ensures.rule c.least_covered.ensures.local in
    let shown = c.with_arg-shown.ensures _ _ of_bytes c.json.ensures.rule c.json.ensures.local in
    c.with_arg.ensures _ _ shown c.history.ensures.rule c.history.ensures.local
