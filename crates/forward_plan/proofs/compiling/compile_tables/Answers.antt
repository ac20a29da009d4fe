use Rattle.std.proofs.Common.{◌<◌, ◌∙◌, arith, length}
use Rattle.std.proofs.lemmas.List.{length-set}
use Rattle.managed_entity.specs.Instance.{Instance}
use Rattle.managed_entity.specs.Shown.{vlan_instance}
use Rattle.forward_plan.specs.Parts.{IsTable}
use Rattle.forward_plan.proofs.Kept.{all_kept, written_kept, written_right}
use Rattle.forward_plan.proofs.compiling.compile_tables.Goals as goal

pub loop-place-preserved : goal.loop-place-preserved
loop-place-preserved c =
    let instances = c.args.mib.now.entities.vlans in
    let tables = c.loop-place.tables in
    let place = c.loop-place.place in
    let number = c.in-Some.number in
    let here : Instance = vlan_instance number c.in-Some.vlan.now in
    let before = c.loop-place.invariant in
    let shown = c.in-Some.ensures.shown in
    let found = c.in-Some.ensures.found in
    let within : place < length tables = omega (arith, before.room, c.in-Some.ensures.room) in
    let part = c.compile.new.self in
    let of = c.compile.ensures.number in
    let compiled = c.compile.ensures.table number in
    record {
      room = length-set tables place part ∙ before.room;
      right = written_right IsTable instances tables place number here part within shown found of compiled before.right;
      kept = written_kept IsTable instances tables place number here part within shown found of compiled before.kept;
      few = omega (arith, c.in-Some.ensures.room);
      count = omega (arith, before.count);
    }

pub returns-in_default-clause-tables : goal.returns-in_default-clause-tables
returns-in_default-clause-tables c =
    all_kept IsTable c.args.mib.now.entities.vlans c.loop-place.tables c.loop-place.place c.in_default.ensures.shown c.loop-place.invariant.right c.loop-place.invariant.kept
