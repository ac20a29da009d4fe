use Rattle.std.proofs.Common.{Bool, Some, inl, rules, w32}
use Rattle.std.proofs.lemmas.Int.{to_z-of_z}
use mir.Val.{SFits}
use Rattle.std.specs.Prelude.{⊤}
use Rattle.script_trace.specs.Script.{first_bad}
use Rattle.onu_scripts.proofs.Refused.{refused}
use Rattle.onu_scripts.proofs.Told.{told_so}
use Rattle.onu_scripts.proofs.expecting.check_into.Goals as goal

pub returns-in-Ok : goal.returns-in-Ok
returns-in-Ok c =
    let wanted = c.args.wanted.now in
    let fits : SFits w32 c.put_found.result = search rules in
    rw (to_z-of_z w32 c.put_found.result fits) (told_so (first_bad (Some wanted.until) wanted.trace.now) c.args.room.now c.put_found.new.room
    c.put_found.result c.put_found.new.written c.in-Ok.ensures.good c.put_found.ensures)

pub returns-in-Err : goal.returns-in-Err
returns-in-Err c =
    let wanted = c.args.wanted.now in
    let fits : SFits w32 c.refuse.result = search rules in
    rw (to_z-of_z w32 c.refuse.result fits) (inl (refused (Some wanted.until) wanted.trace.now (λ (said : Bool). ⊤) c.in-Err.fault _ c.args.room.now
    c.refuse.result c.refuse.new.written c.refuse.new.line c.in-Err.ensures.fault c.refuse.ensures))
