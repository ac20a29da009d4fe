use Rattle.command_line.proofs.grammar.migrate.by_wants.Goals as goal

pub returns : goal.returns
returns c =
    let leaving = c.with_arg-leaving.ensures _ _ c.between_sides.ensures c.flag-leave.ensures.rule c.flag-leave.ensures.local in
    let numbered = c.with_arg-numbered.ensures _ _ leaving c.identifier.ensures.rule c.identifier.ensures.local in
    c.with_arg.ensures _ _ numbered c.flag-no_ties.ensures.rule c.flag-no_ties.ensures.local
