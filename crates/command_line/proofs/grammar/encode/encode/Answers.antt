use Rattle.std.proofs.Common.{rules, codes}
use Rattle.clap.specs.Words.{new_app}
use Rattle.command_line.proofs.grammar.encode.encode.Goals as goal

pub returns : goal.returns
returns c =
    let numbered_from = c.with_arg-numbered_from.ensures (new_app (codes "encode")) _ (search rules, search rules) c.identifier.ensures.rule c.identifier.ensures.local in
    c.with_arg.ensures _ _ numbered_from c.text.ensures.rule c.text.ensures.local
