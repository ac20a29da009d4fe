use Rattle.std.proofs.Common.{◌≤◌, Bool, Some, arith, refl, inl, inr, rules, w32}
use Rattle.std.proofs.lemmas.Int.{to_z-of_z}
use mir.Val.{SFits}
use Rattle.std.specs.Prelude.{⊤}
use Rattle.onu_scripts.proofs.Refused.{refused}
use Rattle.onu_scripts.proofs.comparing.hitless_into.Goals as goal

pub returns-in-Ok : goal.returns-in-Ok
returns-in-Ok c =
    let change = c.args.change.now in
    let forward : change.from ≤ change.until = omega arith in
    let fits : SFits w32 c.put_tears.result = search rules in
    rw (to_z-of_z w32 c.put_tears.result fits) (inr (forward, inr (record { good = inl c.in-Ok.ensures.good; names = refl; found = c.put_tears.ensures })))

pub returns-in-Err : goal.returns-in-Err
returns-in-Err c =
    let change = c.args.change.now in
    let forward : change.from ≤ change.until = omega arith in
    let fits : SFits w32 c.refuse.result = search rules in
    rw (to_z-of_z w32 c.refuse.result fits) (inr (
      forward,
      refused (Some change.until) change.trace.now (λ (said : Bool). ⊤) c.in-Err.fault _ c.args.room.now c.refuse.result c.refuse.new.written
          c.refuse.new.line c.in-Err.ensures.fault c.refuse.ensures,
    ))
