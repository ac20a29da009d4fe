use Rattle.std.proofs.Common.{zero-add, ◌≡◌, length, sym, ◌∙◌}
use Rattle.managed_entity.specs.declared.attribute.Access.TheVariants.{SetByCreate}
use Rattle.managed_entity.proofs.Masks.{named_writable}
use Rattle.managed_entity.proofs.Written.{takes_width, room_named, room_other, done_named, done_table, done_other, table_at-get_or}
use Rattle.managed_entity.proofs.write.write.Goals as goal
use Rattle.managed_entity.proofs.write.write.Goals.{then-names, then-not-is_table, else-not-is_table, else-names}

pub set_attribute-requires-clause-width : goal.set_attribute-requires-clause-width
set_attribute-requires-clause-width g c =
    rw c.layout-layout.ensures (takes_width _ _ _ _ _ _ (rw c.layout-layout.ensures at c.loop-place-test.true) (sym c.names.ensures ∙ c.if-names.true) c.loop-place.invariant.room)

pub set_attribute-requires-clause-no_table : goal.set_attribute-requires-clause-no_table
set_attribute-requires-clause-no_table g c =
    table_at-get_or g.E.ManagedEntity.layout _ c.loop-place.place (rw c.layout-layout.ensures at c.loop-place-test.true) ∙ sym (rw c.layout-layout.ensures at c.is_table.ensures) ∙ c.if-not-is_table.true

pub set_attribute-requires-clause-writable : goal.set_attribute-requires-clause-writable
set_attribute-requires-clause-writable g c = named_writable c.args.mask 0 g.E.ManagedEntity.layout c.loop-place.place c.requires.writable (rw zero-add (sym c.names.ensures ∙ c.if-names.true))

pub loop-place-preserved : goal.loop-place-preserved
loop-place-preserved g c =
    let layout = g.E.ManagedEntity.layout in
    let values = g.E.ManagedEntity.values c.loop-place.entity in
    let inside = rw c.layout-layout.ensures at c.loop-place-test.true in
    let same : length values ≡ length layout = g.met.E.ManagedEntity.counts c.loop-place.entity in
    let kept = c.loop-place.invariant in
    elim c.if-names.branch [
      | then-names w ↦
          let named = sym c.names.ensures ∙ w.if-names.true in
          elim w.if-not-is_table.branch [
            | then-not-is_table w' ↦
                let no_table = sym (rw c.layout-layout.ensures at w.is_table.ensures) ∙ w'.if-not-is_table.true in
                record {
                  entries = rw (w.entity-is, w'.entity-is) (w'.set_attribute.ensures.entries ∙ kept.entries);
                  room = rw (w.used-is, c.layout-layout.ensures) (room_named _ _ _ _ _ _ inside named kept.room);
                  done = rw (w.entity-is, w'.entity-is, w.used-is, c.layout-layout.ensures) (done_named _ _ _ layout _ _ values _ inside same named no_table (rw c.layout-layout.ensures at w'.set_attribute.ensures.values) ∙ kept.done);
                }
            | else-not-is_table w' ↦
                let a_table = sym (rw c.layout-layout.ensures at w.is_table.ensures) ∙ w'.if-not-is_table.false in
                record {
                  entries = rw (w.entity-is, w'.entity-is) kept.entries;
                  room = rw (w.used-is, c.layout-layout.ensures) (room_named _ _ _ _ _ _ inside named kept.room);
                  done = rw (w.entity-is, w'.entity-is, w.used-is, c.layout-layout.ensures) (done_table _ _ _ layout _ _ values inside same named a_table ∙ kept.done);
                }
          ]
      | else-names w ↦
          let other = sym c.names.ensures ∙ w.if-names.false in
          record {
            entries = rw w.entity-is kept.entries;
            room = rw w.used-is (room_other _ _ _ _ (record { width = 0; access = SetByCreate; initial = 0 }) _ inside other kept.room);
            done = rw (w.entity-is, w.used-is) (done_other _ _ _ _ _ inside same other ∙ kept.done);
          }
    ]
