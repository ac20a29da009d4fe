use Rattle.command_line.proofs.grammar.expect.expect.Goals as goal

pub returns : goal.returns
returns c =
    let long = c.with_arg-long.ensures _ _ c.by_versions.ensures c.least-bytes.ensures.rule c.least-bytes.ensures.local in
    let shown = c.with_arg-shown.ensures _ _ long c.json.ensures.rule c.json.ensures.local in
    c.with_arg.ensures _ _ shown c.expectations.ensures.rule c.expectations.ensures.local
