use Rattle.std.proofs.Common.{rules, codes}
use Rattle.clap.specs.Words.{new_app}
use Rattle.command_line.proofs.grammar.judge.by_settings.Goals as goal

pub returns : goal.returns
returns c =
    let of_model = c.with_arg-of_model.ensures (new_app (codes "judge")) _ (search rules, search rules) c.modelled.ensures.rule c.modelled.ensures.local in
    let of_order = c.with_arg-of_order.ensures _ _ of_model c.unordered.ensures.rule c.unordered.ensures.local in
    let of_strays = c.with_arg-of_strays.ensures _ _ of_order c.allow_strays.ensures.rule c.allow_strays.ensures.local in
    let of_padding = c.with_arg-of_padding.ensures _ _ of_strays c.padded.ensures.rule c.padded.ensures.local in
    c.with_arg.ensures _ _ of_padding c.allow_unfinished.ensures.rule c.allow_unfinished.ensures.local
