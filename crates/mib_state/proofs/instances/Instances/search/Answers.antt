use Rattle.std.proofs.Common.{◌≤◌, length, rules, refl, map, arith}
use Rattle.std.proofs.lemmas.List.{length-map}
use Rattle.std.proofs.lemmas.List.Sorted.{answers_always}
use Rattle.mib_state.specs.declared.instances.Row.{Row}
use Rattle.managed_entity.specs.Instance.{Instance, shown_as}
use Rattle.mib_state.proofs.Place.{found_instance, found_room, placed, searched}
use Rattle.mib_state.proofs.instances.Instances.search.Goals as goal

pub returns : goal.returns
returns g c =
    let shown : Row g.row.E.Denot → Instance = λ row. shown_as row.number (g.E.ManagedEntity.values row.entity) (g.E.ManagedEntity.entries row.entity) in
    let rows = c.self.inside.rows.items in
    let n = c.args.number in
    let facts = c.binary_search_by_key.ensures in
    let by_number = facts.position (λ row. row.number) (answers_always _ _ _ (λ f a r g called. search rules)) in
    let at = searched shown (λ row. row.number) (λ row. refl) n rows c.self.invariant.0 _ (rw c.deref.ensures.value at facts.bound) (rw c.deref.ensures.value at by_number) in
    let fits : length (map shown rows) ≤ g.E.ManagedEntity.ROOM = rw length-map (omega (arith, c.self.invariant.3, c.self.inside.rows.ok.0)) in
    rw (← c.self.view_is) (record {
      found = at.found;
      absent = at.absent;
      instance = found_instance (map shown rows) n c.self.invariant.0 _ at.found;
      place = placed (map shown rows) n c.self.invariant.0 _ at.found at.absent;
      room = found_room (map shown rows) n _ fits _ at.found;
    })
