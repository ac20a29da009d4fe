use Rattle.std.proofs.Common.{◌≤◌, Some, arith, subst, ap, inr, rules, w32}
use Rattle.std.proofs.lemmas.Int.{to_z-of_z}
use mir.Val.{SFits}
use Rattle.mib_state.specs.Entities.{Entities}
use Rattle.script_trace.specs.Script.{Told, first_bad}
use Rattle.text_every_frame.specs.Same.{IsSaid}
use Rattle.onu_cell.specs.Numbers.{bad_line}
use Rattle.onu_scripts.specs.Comparing.{ReadsInto, entities_behind}
use Rattle.onu_scripts.proofs.Lines.{none_before}
use Rattle.onu_scripts.proofs.Refused.{earlier_read, refused}
use Rattle.onu_scripts.proofs.comparing.moments_into.Goals as goal

pub returns-in-Ok : goal.returns-in-Ok
returns-in-Ok c =
    let change = c.args.change.now in
    let forward : change.from ≤ change.until = omega arith in
    let before = entities_behind change.from change.trace.now in
    let fits : SFits w32 c.compare_earlier.result = search rules in
    rw (to_z-of_z w32 c.compare_earlier.result fits) (inr (
      forward,
      earlier_read (first_bad (Some change.until) change.trace.now) (first_bad (Some change.from) change.trace.now)
          (IsSaid before (entities_behind change.until change.trace.now) change.frames.port change.frames.least) c.args.room.now c.compare_earlier.new.room
          c.compare_earlier.result c.compare_earlier.new.written c.compare_earlier.new.line c.in-Ok.ensures.good
          (none_before change.trace.now change.from change.until forward c.in-Ok.ensures.good)
          (subst (λ (x : Entities). ReadsInto bad_line (first_bad (Some change.from) change.trace.now) (IsSaid before x change.frames.port change.frames.least)
          c.args.room.now c.compare_earlier.new.room c.compare_earlier.result c.compare_earlier.new.written c.compare_earlier.new.line)
          (ap (λ (t : Told). t.state.entities) c.in-Ok.ensures.told) c.compare_earlier.ensures),
    ))

pub returns-in-Err : goal.returns-in-Err
returns-in-Err c =
    let change = c.args.change.now in
    let forward : change.from ≤ change.until = omega arith in
    let fits : SFits w32 c.refuse.result = search rules in
    rw (to_z-of_z w32 c.refuse.result fits) (inr (
      forward,
      refused (Some change.until) change.trace.now
          (IsSaid (entities_behind change.from change.trace.now) (entities_behind change.until change.trace.now) change.frames.port change.frames.least)
          c.in-Err.fault _ c.args.room.now c.refuse.result c.refuse.new.written c.refuse.new.line c.in-Err.ensures.fault c.refuse.ensures,
    ))
