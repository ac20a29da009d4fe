use Rattle.std.proofs.Common.{rules, codes}
use Rattle.clap.specs.Words.{new_app}
use Rattle.command_line.proofs.grammar.record.of_captures.Goals as goal

pub returns : goal.returns
returns c =
    let with_omci = c.with_arg-with_omci.ensures (new_app (codes "record")) _ (search rules, search rules) c.several-omci.ensures.rule c.several-omci.ensures.local in
    let with_into = c.with_arg-with_into.ensures _ _ with_omci c.several-into.ensures.rule c.several-into.ensures.local in
    c.with_arg.ensures _ _ with_into c.several-out_of.ensures.rule c.several-out_of.ensures.local
