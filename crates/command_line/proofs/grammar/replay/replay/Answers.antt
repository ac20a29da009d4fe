use Rattle.std.proofs.Common.{rules, codes}
use Rattle.clap.specs.Words.{new_app}
use Rattle.command_line.proofs.grammar.replay.replay.Goals as goal

pub returns : goal.returns
returns c =
    let shown = c.with_arg-shown.ensures (new_app (codes "replay")) _ (search rules, search rules) c.json.ensures.rule c.json.ensures.local in
    c.with_arg.ensures _ _ shown c.script.ensures.rule c.script.ensures.local
