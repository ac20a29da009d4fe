use Rattle.std.proofs.Common.{◌<◌, ◌∙◌, arith, length}
use Rattle.std.proofs.lemmas.List.{length-set}
use Rattle.managed_entity.specs.Instance.{Instance}
use Rattle.managed_entity.specs.Shown.{mapper_instance}
use Rattle.forward_plan.specs.Parts.{IsMapper}
use Rattle.forward_plan.proofs.Kept.{all_kept, moved_kept, moved_right, there_kept, written_kept, written_right}
use Rattle.forward_plan.proofs.compiling.follow_mappers.Goals as goal
use Rattle.forward_plan.proofs.compiling.follow_mappers.Goals.{then-not-bring, else-not-bring}

pub loop-place-preserved : goal.loop-place-preserved
loop-place-preserved c =
    let instances = c.args.mib.now.entities.mappers in
    let place = c.loop-place.place in
    let number = c.in-Some.number in
    let here : Instance = mapper_instance number c.in-Some.mapper.now in
    let before = c.loop-place.invariant in
    let brought = c.bring.new.parts in
    let moved = c.bring.ensures.moved in
    let right = moved_right (IsMapper c.args.mib.now.entities) instances c.loop-place.mappers brought place moved before.right in
    let kept = moved_kept (IsMapper c.args.mib.now.entities) instances c.loop-place.mappers brought place moved before.kept in
    let shown = c.in-Some.ensures.shown in
    let found = c.in-Some.ensures.found in
    let room = c.in-Some.ensures.room in
    let within : place < length brought = omega (arith, moved.len, before.room, room) in
    elim c.if-not-bring.branch [
      | then-not-bring w ↦
          let part = w.compile.new.self in
          let of = w.compile.ensures.number in
          let compiled = w.compile.ensures.routes number in
          rw (w.mappers-is, w.compiled-is) (record {
            room = length-set brought place part ∙ moved.len ∙ before.room;
            right = written_right (IsMapper c.args.mib.now.entities) instances brought place number here part within shown found of compiled right;
            kept = written_kept (IsMapper c.args.mib.now.entities) instances brought place number here part within shown found of compiled kept;
            few = omega (arith, room);
            count = omega (arith, before.count);
          })
      | else-not-bring w ↦
          rw (w.mappers-is, w.compiled-is) (record {
            room = omega (arith, moved.len, before.room);
            right = right;
            kept = there_kept (IsMapper c.args.mib.now.entities) instances brought place number here shown found (c.bring.ensures.there w.if-not-bring.false) right kept;
            few = omega (arith, room);
            count = omega (arith, before.count);
          })
    ]

pub returns-in_default-clause-mappers : goal.returns-in_default-clause-mappers
returns-in_default-clause-mappers c =
    all_kept (IsMapper c.args.mib.now.entities) c.args.mib.now.entities.mappers c.loop-place.mappers c.loop-place.place c.in_default.ensures.shown c.loop-place.invariant.right c.loop-place.invariant.kept
