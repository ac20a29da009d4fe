use Rattle.std.proofs.Common.{rules, codes}
use Rattle.command_line.proofs.grammar.forward.forward.Goals as goal

pub returns : goal.returns
returns c =
    let files = c.over_files.ensures (codes "forward") (search rules, search rules) in
    let to_capture = c.with_arg-to_capture.ensures _ _ files c.out.ensures.rule c.out.ensures.local in
    let to_captures = c.with_arg-to_captures.ensures _ _ to_capture c.dropped.ensures.rule c.dropped.ensures.local in
    let to_files = c.with_arg-to_files.ensures _ _ to_captures c.verdicts.ensures.rule c.verdicts.ensures.local in
    let up_to = c.with_arg-up_to.ensures _ _ to_files c.until.ensures.rule c.until.ensures.local in
    let strictly = c.with_arg-strictly.ensures _ _ up_to c.strict.ensures.rule c.strict.ensures.local in
    c.with_arg.ensures _ _ strictly c.json.ensures.rule c.json.ensures.local
