use Rattle.std.proofs.Common.{drop, sym, ap, refl}
use Rattle.mib_state.specs.declared.instances.Row.{Row}
use Rattle.managed_entity.specs.Instance.{Instance, shown_as}
use Rattle.managed_entity.specs.Answer.{left_by}
use Rattle.managed_entity.specs.Mask.{mask_of}
use Rattle.managed_entity.proofs.SetInstance.{all_writable, values_fit, written_as}
use Rattle.mib_state.proofs.Setting.{accepted_at, set_left_at, ascending_again, set_missing}
use Rattle.mib_state.proofs.instances.Instances.set.Goals as goal

pub set-requires-clause-fits : goal.set-requires-clause-fits
set-requires-clause-fits g c =
    let shown : Row g.row.E.Denot → Instance = λ row. shown_as row.number (g.E.ManagedEntity.values row.entity) (g.E.ManagedEntity.entries row.entity) in
    let layout = g.E.ManagedEntity.layout in
    let mask = mask_of c.args.request.now.contents in
    let bytes = drop 2 c.args.request.now.contents in
    let row = c.index_mut-row.result.now in
    let there = rw (← c.self.view_is) at c.in-Ok.ensures.found in
    let accepted = accepted_at shown c.self.inside.rows.items c.args.request.now.instance c.in-Ok.at row c.self.invariant.0 there c.index_mut-row.ensures.value layout mask bytes (rw (← c.self.view_is) at c.requires) in
    rw (c.mask_of.ensures, c.set_values.ensures.len) (values_fit layout mask bytes (shown row) accepted)

pub set-requires-clause-writable : goal.set-requires-clause-writable
set-requires-clause-writable g c =
    let shown : Row g.row.E.Denot → Instance = λ row. shown_as row.number (g.E.ManagedEntity.values row.entity) (g.E.ManagedEntity.entries row.entity) in
    let layout = g.E.ManagedEntity.layout in
    let mask = mask_of c.args.request.now.contents in
    let bytes = drop 2 c.args.request.now.contents in
    let row = c.index_mut-row.result.now in
    let there = rw (← c.self.view_is) at c.in-Ok.ensures.found in
    let accepted = accepted_at shown c.self.inside.rows.items c.args.request.now.instance c.in-Ok.at row c.self.invariant.0 there c.index_mut-row.ensures.value layout mask bytes (rw (← c.self.view_is) at c.requires) in
    rw c.mask_of.ensures (all_writable layout mask bytes (shown row) accepted)

pub invariant_of-self : goal.invariant_of-self
invariant_of-self g c =
    let shown : Row g.row.E.Denot → Instance = λ row. shown_as row.number (g.E.ManagedEntity.values row.entity) (g.E.ManagedEntity.entries row.entity) in (
      ascending_again shown c.self.inside.rows.items c.args.request.now.instance c.in-Ok.at c.index_mut-row.result.now c.self.invariant.0 (rw (← c.self.view_is) at c.in-Ok.ensures.found) c.index_mut-row.ensures.value
          (record { number = c.index_mut-row.result.now.number; entity = c.set.new.entity }) refl,
      c.self.invariant.1,
      c.self.invariant.2,
      c.self.invariant.3,
    )

pub returns-in-Ok : goal.returns-in-Ok
returns-in-Ok g c =
    let shown : Row g.row.E.Denot → Instance = λ row. shown_as row.number (g.E.ManagedEntity.values row.entity) (g.E.ManagedEntity.entries row.entity) in
    let layout = g.E.ManagedEntity.layout in
    let mask = mask_of c.args.request.now.contents in
    let bytes = drop 2 c.args.request.now.contents in
    let row = c.index_mut-row.result.now in
    let there = rw (← c.self.view_is) at c.in-Ok.ensures.found in
    let accepted = accepted_at shown c.self.inside.rows.items c.args.request.now.instance c.in-Ok.at row c.self.invariant.0 there c.index_mut-row.ensures.value layout mask bytes (rw (← c.self.view_is) at c.requires) in
    let new : Row g.row.E.Denot = record { number = row.number; entity = c.set.new.entity } in
    rw (← c.self.view_is) (set_left_at shown c.self.inside.rows.items c.args.request.now.instance c.in-Ok.at row c.self.invariant.0 there c.index_mut-row.ensures.value layout mask bytes new
    (written_as layout row.number _ _ _ _ mask _ bytes _ c.mask_of.ensures c.set_values.ensures.values c.set.ensures.values c.set.ensures.entries accepted))

pub returns-in_default : goal.returns-in_default
returns-in_default g c =
    sym (ap (left_by c.args.self.now) (set_missing g.E.ManagedEntity.layout c.args.request.now.instance (mask_of c.args.request.now.contents) (drop 2 c.args.request.now.contents) c.args.self.now _ c.in_default.ensures.absent))
