use Rattle.std.proofs.Common.{rules, codes}
use Rattle.command_line.proofs.grammar.run.run.Goals as goal

pub returns : goal.returns
returns c =
    let files = c.over_files.ensures (codes "run") (search rules, search rules) in
    let on_lanes = c.with_arg-on_lanes.ensures _ _ files c.lanes.ensures.rule c.lanes.ensures.local in
    let in_batches = c.with_arg-in_batches.ensures _ _ on_lanes c.batch.ensures.rule c.batch.ensures.local in
    let in_order = c.with_arg-in_order.ensures _ _ in_batches c.after.ensures.rule c.after.ensures.local in
    let up_to = c.with_arg-up_to.ensures _ _ in_order c.until.ensures.rule c.until.ensures.local in
    c.with_arg.ensures _ _ up_to c.json.ensures.rule c.json.ensures.local
