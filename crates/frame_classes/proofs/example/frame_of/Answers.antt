use Rattle.std.proofs.Common.{◌≡◌, ◌-◌, arith}
use Rattle.frame_classes.specs.Frame.{frame_by}
use Rattle.frame_classes.proofs.Written.{frame_along, values_along, written_by}
use Rattle.frame_classes.proofs.example.frame_of.Goals as goal

written : (c : goal.After-loop-more) → c.loop-more.frame.items ≡ frame_by c.args.values.now c.args.least c.args.number
written c =
    let more : c.loop-more._more ≡ c.length_of-length.result - 32 = omega arith in
    written_by c.args.values.now c.args.least c.args.number c.length_of-length.result c.min.result c.loop-more._more c.head_of-head.result
    c.in_ok-frame.frame.items c.loop-more.frame.items c.head_of-head.ensures c.length_of-length.ensures.value c.min.ensures more
    c.in_ok-frame.ensures.items c.loop-more.invariant

pub returns-clause-bytes : goal.returns-clause-bytes
returns-clause-bytes c = written c

pub returns-clause-values : goal.returns-clause-values
returns-clause-values c =
    values_along c.args.values.now c.args.least c.args.number c.loop-more.frame.items c.length_of-length.ensures.eleven (written c)

pub returns-clause-frame : goal.returns-clause-frame
returns-clause-frame c = frame_along c.args.values.now c.args.least c.args.number c.loop-more.frame.items (written c)
