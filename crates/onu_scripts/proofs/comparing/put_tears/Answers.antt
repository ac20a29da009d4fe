use Rattle.std.proofs.Common.{Bool, rules, w32}
use Rattle.std.proofs.lemmas.Int.{to_z-of_z}
use mir.Val.{SFits}
use Rattle.std.specs.Prelude.{⊤}
use Rattle.onu_scripts.proofs.Found.{found_so}
use Rattle.onu_scripts.proofs.comparing.put_tears.Goals as goal

pub returns-in-Ok : goal.returns-in-Ok
returns-in-Ok c =
    let fits : SFits w32 c.put_made.result = search rules in
    rw (to_z-of_z w32 c.put_made.result fits) (found_so (λ (said : Bool). ⊤) c.in-Ok.is_hitless c.args.room.now c.put_made.new.room
    c.put_made.result c.put_made.new.written tt c.put_made.ensures.made c.put_made.ensures.tells)
