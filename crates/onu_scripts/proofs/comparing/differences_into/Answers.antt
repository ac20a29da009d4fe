use Rattle.std.proofs.Common.{Some, subst, ap, rules, w32}
use Rattle.std.proofs.lemmas.Int.{to_z-of_z}
use mir.Val.{SFits}
use Rattle.mib_state.specs.Entities.{Entities}
use Rattle.script_trace.specs.Script.{Told, first_bad}
use Rattle.text_every_frame.specs.Same.{IsSaid}
use Rattle.onu_cell.specs.Numbers.{bad_after}
use Rattle.onu_scripts.specs.Comparing.{ReadsInto, entities_behind}
use Rattle.onu_scripts.proofs.Refused.{first_refused, second_read}
use Rattle.onu_scripts.proofs.comparing.differences_into.Goals as goal

pub returns-in-Ok : goal.returns-in-Ok
returns-in-Ok c =
    let sides = c.args.sides.now in
    let after = entities_behind sides.until sides.after.now in
    let fits : SFits w32 c.compare_with.result = search rules in
    rw (to_z-of_z w32 c.compare_with.result fits) (second_read (first_bad (Some sides.from) sides.before.now) (first_bad (Some sides.until) sides.after.now)
    (IsSaid (entities_behind sides.from sides.before.now) after sides.frames.port sides.frames.least) c.args.room.now c.compare_with.new.room
    c.compare_with.result c.compare_with.new.written c.compare_with.new.line c.in-Ok.ensures.good
    (subst (λ (x : Entities). ReadsInto bad_after (first_bad (Some sides.until) sides.after.now) (IsSaid x after sides.frames.port sides.frames.least)
    c.args.room.now c.compare_with.new.room c.compare_with.result c.compare_with.new.written c.compare_with.new.line)
    (ap (λ (t : Told). t.state.entities) c.in-Ok.ensures.told) c.compare_with.ensures))

pub returns-in-Err : goal.returns-in-Err
returns-in-Err c =
    let sides = c.args.sides.now in
    let fits : SFits w32 c.refuse.result = search rules in
    rw (to_z-of_z w32 c.refuse.result fits) (first_refused (Some sides.from) sides.before.now (first_bad (Some sides.until) sides.after.now)
    (IsSaid (entities_behind sides.from sides.before.now) (entities_behind sides.until sides.after.now) sides.frames.port sides.frames.least) c.in-Err.fault
    c.args.room.now c.refuse.result c.refuse.new.written c.refuse.new.line c.in-Err.ensures.fault c.refuse.ensures)
