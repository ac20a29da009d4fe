use Rattle.std.proofs.Common.{rules, codes}
use Rattle.command_line.proofs.grammar.expect.by_versions.Goals as goal

pub returns : goal.returns
returns c =
    let of_trace = c.over_trace.ensures (codes "expect") (search rules, search rules) in
    c.with_arg.ensures _ _ of_trace c.from.ensures.rule c.from.ensures.local
