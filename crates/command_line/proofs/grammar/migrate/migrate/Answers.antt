use Rattle.command_line.proofs.grammar.migrate.migrate.Goals as goal

pub returns : goal.returns
returns c = c.with_arg.ensures _ _ c.by_wants.ensures c.json.ensures.rule c.json.ensures.local
