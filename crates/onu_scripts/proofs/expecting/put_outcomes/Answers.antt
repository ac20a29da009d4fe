use Rattle.std.proofs.Common.{rules, w32}
use Rattle.std.proofs.lemmas.Int.{to_z-of_z}
use mir.Val.{SFits}
use Rattle.text_outcomes.specs.Said.{IsSaidOfLast}
use Rattle.onu_scripts.proofs.Found.{found_so}
use Rattle.onu_scripts.proofs.expecting.put_outcomes.Goals as goal

pub returns-in-Ok : goal.returns-in-Ok
returns-in-Ok c =
    let fits : SFits w32 c.put_made.result = search rules in
    let asked = c.args.asked.now in
    rw (to_z-of_z w32 c.put_made.result fits) (found_so (IsSaidOfLast asked.from c.args.applied.now.mib.entities asked.least asked.lines.now) c.in-Ok.hold
    c.args.room.now c.put_made.new.room c.put_made.result c.put_made.new.written c.in-Ok.ensures c.put_made.ensures.made c.put_made.ensures.tells)
