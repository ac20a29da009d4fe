use Rattle.std.proofs.Common.{rules, codes}
use Rattle.command_line.proofs.grammar.lint.lint.Goals as goal

pub returns : goal.returns
returns c =
    let of_traces = c.over_traces.ensures (codes "lint") (search rules, search rules) in
    let with_ignore = c.with_arg-with_ignore.ensures _ _ of_traces c.several-ignore.ensures.rule c.several-ignore.ensures.local in
    c.with_arg.ensures _ _ with_ignore c.optional-fail_on.ensures.rule c.optional-fail_on.ensures.local
