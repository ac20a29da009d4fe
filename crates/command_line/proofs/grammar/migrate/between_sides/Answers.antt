use Rattle.std.proofs.Common.{rules, codes}
use Rattle.command_line.proofs.grammar.migrate.between_sides.Goals as goal

pub returns : goal.returns
returns c =
    let of_trace = c.over_trace.ensures (codes "migrate") (search rules, search rules) in
    let from_line = c.with_arg-from_line.ensures _ _ of_trace c.from.ensures.rule c.from.ensures.local in
    c.with_arg.ensures _ _ from_line c.to.ensures.rule c.to.ensures.local
