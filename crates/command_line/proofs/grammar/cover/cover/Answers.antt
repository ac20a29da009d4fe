use Rattle.std.proofs.Common.{rules, codes}
use Rattle.command_line.proofs.grammar.cover.cover.Goals as goal

pub returns : goal.returns
returns c =
    let of_trace = c.over_trace.ensures (codes "cover") (search rules, search rules) in
    let at_port = c.with_arg-at_port.ensures _ _ of_trace c.any_port-port.ensures.rule c.any_port-port.ensures.local in
    let long = c.with_arg-long.ensures _ _ at_port c.least-bytes.ensures.rule c.least-bytes.ensures.local in
    let scripted = c.with_arg-scripted.ensures _ _ long c.flag-script.ensures.rule c.flag-script.ensures.local in
    let to_capture = c.with_arg-to_capture.ensures _ _ scripted c.out.ensures.rule c.out.ensures.local in
    c.with_arg.ensures _ _ to_capture c.json.ensures.rule c.json.ensures.local
