use Rattle.std.proofs.Common.{◌≡◌, Some, refl, arith, length}
use Rattle.managed_entity.specs.Class.{mapper_class, room_of}
use Rattle.managed_entity.specs.Shown.{mapper_instance}
use Rattle.port_plan.proofs.Reading.{same_routes}
use Rattle.forward_plan.specs.Parts.{IsMapper}
use Rattle.forward_plan.proofs.Kept.{mappers_stay, same_tables, written_whole}
use Rattle.forward_plan.proofs.Replaced.{one_compiled, set_at}
use Rattle.forward_plan.proofs.plan.Plan.set_mapper.Goals as goal

pub index_mut-requires : goal.index_mut-requires
index_mut-requires c = omega (arith, c.in-Some.ensures.room, c.args.self.now.for_mappers)

pub set_mapper-requires-clause-changed : goal.set_mapper-requires-clause-changed
set_mapper-requires-clause-changed c =
    let (e, is, was) = c.requires in
    let new = c.args.mib.now.entities in
    let at = set_at c.args.instance e.mappers new.mappers c.in-Some.place (is.mappers refl) c.in-Some.ensures.place in
    (e, at, is.same.vlans.elsewhere (λ same. absurd (omega (arith, same))), was.of_ports)

pub returns : goal.returns
returns c =
    let (e, is, was) = c.requires in
    let new = c.args.mib.now.entities in
    let place = c.in-Some.place in
    let tables = c.args.self.now.tables in
    let mappers = c.args.self.now.mappers in
    let kept = c.forget.new.parts in
    let part = c.compile.new.self in
    let at = set_at c.args.instance e.mappers new.mappers place (is.mappers refl) c.in-Some.ensures.place in
    let len : length kept ≡ room_of mapper_class = omega (arith, c.forget.ensures.forgotten.len, c.deref_mut.ensures.len, c.args.self.now.for_mappers) in
    let whole = written_whole kept mappers.items mappers.len (room_of mapper_class) c.args.self.now.for_mappers len in
    let forgotten = rw c.deref_mut.ensures.value at c.forget.ensures.forgotten in
    let compiled = rw c.deref_mut.ensures.value at c.forget.ensures.compiled in
    let interworks = is.same.interworks.elsewhere (λ same. absurd (omega (arith, same))) in
    let gem_ports = is.same.gem_ports.elsewhere (λ same. absurd (omega (arith, same))) in
    record {
      of_ports = c.set_mapper.ensures;
      of_tables = same_tables e new tables.items (is.same.vlans.elsewhere (λ same. absurd (omega (arith, same)))) was.of_tables;
      of_mappers =
          rw whole
          (one_compiled (IsMapper e) (IsMapper new) e.mappers new.mappers place c.in-Some.number (mapper_instance c.in-Some.number c.in-Some.mapper.now) mappers.items kept part at c.in-Some.ensures.shown
          c.in-Some.ensures.found c.compile.ensures.number (c.compile.ensures.routes c.in-Some.number)
          (λ i compiled is. same_routes e new (Some i) compiled interworks gem_ports is) (omega (arith, c.in-Some.ensures.room, len)) compiled
          (mappers_stay e new c.args.instance mappers.items kept is.same forgotten was.of_mappers.right) was.of_mappers);
    }
