use Rattle.std.proofs.Common.{rules, w32}
use Rattle.std.proofs.lemmas.Int.{to_z-of_z}
use mir.Val.{SFits}
use Rattle.text_every_frame.specs.Same.{IsSaid}
use Rattle.onu_scripts.proofs.Found.{found_so}
use Rattle.onu_scripts.proofs.comparing.put_differences.Goals as goal

pub returns-in-Ok : goal.returns-in-Ok
returns-in-Ok c =
    let fits : SFits w32 c.put_made.result = search rules in
    let before = c.args.before.now.mib.entities in
    let after = c.args.after.now.mib.entities in
    rw (to_z-of_z w32 c.put_made.result fits) (found_so (IsSaid before after c.args.frames.port c.args.frames.least) c.in-Ok.is_same c.args.room.now
    c.put_made.new.room c.put_made.result c.put_made.new.written c.in-Ok.ensures c.put_made.ensures.made c.put_made.ensures.tells)
