use Rattle.std.proofs.Common.{◌<◌, ◌∙◌, arith, length}
use Rattle.std.proofs.lemmas.List.{length-set}
use Rattle.managed_entity.specs.Instance.{Instance}
use Rattle.managed_entity.specs.Shown.{vlan_instance}
use Rattle.forward_plan.specs.Parts.{IsTable}
use Rattle.forward_plan.proofs.Kept.{all_kept, moved_kept, moved_right, there_kept, written_kept, written_right}
use Rattle.forward_plan.proofs.compiling.follow_tables.Goals as goal
use Rattle.forward_plan.proofs.compiling.follow_tables.Goals.{then-not-bring, else-not-bring}

pub loop-place-preserved : goal.loop-place-preserved
loop-place-preserved c =
    let instances = c.args.mib.now.entities.vlans in
    let place = c.loop-place.place in
    let number = c.in-Some.number in
    let here : Instance = vlan_instance number c.in-Some.vlan.now in
    let before = c.loop-place.invariant in
    let brought = c.bring.new.parts in
    let moved = c.bring.ensures.moved in
    let right = moved_right IsTable instances c.loop-place.tables brought place moved before.right in
    let kept = moved_kept IsTable instances c.loop-place.tables brought place moved before.kept in
    let shown = c.in-Some.ensures.shown in
    let found = c.in-Some.ensures.found in
    let room = c.in-Some.ensures.room in
    let within : place < length brought = omega (arith, moved.len, before.room, room) in
    elim c.if-not-bring.branch [
      | then-not-bring w ↦
          let part = w.follow.new.self in
          let of = w.follow.ensures.number in
          let compiled = w.follow.ensures.table number in
          rw (w.tables-is, w.compiled-is) (record {
            room = length-set brought place part ∙ moved.len ∙ before.room;
            right = written_right IsTable instances brought place number here part within shown found of compiled right;
            kept = written_kept IsTable instances brought place number here part within shown found of compiled kept;
            few = omega (arith, room);
            count = omega (arith, before.count);
          })
      | else-not-bring w ↦
          rw (w.tables-is, w.compiled-is) (record {
            room = omega (arith, moved.len, before.room);
            right = right;
            kept = there_kept IsTable instances brought place number here shown found (c.bring.ensures.there w.if-not-bring.false) right kept;
            few = omega (arith, room);
            count = omega (arith, before.count);
          })
    ]

pub returns-in_default-clause-tables : goal.returns-in_default-clause-tables
returns-in_default-clause-tables c =
    all_kept IsTable c.args.mib.now.entities.vlans c.loop-place.tables c.loop-place.place c.in_default.ensures.shown c.loop-place.invariant.right c.loop-place.invariant.kept
