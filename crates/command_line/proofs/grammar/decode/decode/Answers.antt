use Rattle.std.proofs.Common.{rules, codes}
use Rattle.clap.specs.Words.{new_app}
use Rattle.command_line.proofs.grammar.decode.decode.Goals as goal

pub returns : goal.returns
returns c =
    let of_words = c.with_arg-of_words.ensures (new_app (codes "decode")) _ (search rules, search rules) c.source.ensures.rule c.source.ensures.local in
    let shown = c.with_arg-shown.ensures _ _ of_words c.json.ensures.rule c.json.ensures.local in
    c.with_arg.ensures _ _ shown c.scripts.ensures.rule c.scripts.ensures.local
