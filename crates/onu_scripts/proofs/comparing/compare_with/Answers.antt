use Rattle.std.proofs.Common.{Some, refl, subst, ap, inl, inr, rules, w32}
use Rattle.std.proofs.lemmas.Int.{to_z-of_z}
use mir.Val.{SFits}
use Rattle.mib_state.specs.Entities.{Entities}
use Rattle.script_trace.specs.Script.{Told}
use Rattle.text_every_frame.specs.Same.{IsSaid}
use Rattle.onu_scripts.specs.Comparing.{FindsInto, entities_behind}
use Rattle.onu_scripts.proofs.Refused.{refused}
use Rattle.onu_scripts.proofs.comparing.compare_with.Goals as goal

pub returns-in-Ok : goal.returns-in-Ok
returns-in-Ok c =
    let sides = c.args.sides.now in
    let fits : SFits w32 c.put_differences.result = search rules in
    rw (to_z-of_z w32 c.put_differences.result fits) (inr (record {
      good = inl c.in-Ok.ensures.good;
      names = refl;
      found = subst (λ (x : Entities). FindsInto (IsSaid c.args.before.now.mib.entities x sides.frames.port sides.frames.least) c.args.room.now
          c.put_differences.new.room c.put_differences.result c.put_differences.new.written)
          (ap (λ (t : Told). t.state.entities) c.in-Ok.ensures.told) c.put_differences.ensures;
    }))

pub returns-in-Err : goal.returns-in-Err
returns-in-Err c =
    let sides = c.args.sides.now in
    let fits : SFits w32 c.refuse.result = search rules in
    rw (to_z-of_z w32 c.refuse.result fits) (refused (Some sides.until) sides.after.now
    (IsSaid c.args.before.now.mib.entities (entities_behind sides.until sides.after.now) sides.frames.port sides.frames.least) c.in-Err.fault _ c.args.room.now
    c.refuse.result c.refuse.new.written c.refuse.new.line c.in-Err.ensures.fault c.refuse.ensures)
