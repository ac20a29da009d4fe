use Rattle.std.proofs.Common.{◌≡◌, ◌∙◌, ◌++◌, ◌<◌, List, Some, get_or, refl, ap, sym, arith, length, map, set, take, drop}
use Rattle.std.proofs.lemmas.Option.{get_or_from_slice_get, slice_get_within}
use Rattle.forward_plan.specs.declared.naming.Naming.{Naming}
use Rattle.forward_plan.specs.Attachment.{AreAttachedOrKept, AreOfTable, mapper_naming, table_naming}
use Rattle.forward_plan.specs.Ports.{port_count}
use Rattle.forward_plan.proofs.Attachments.{attached_same, of_table_kept, or_kept_both, table_attached}
use Rattle.forward_plan.proofs.Kept.{written_whole}
use Rattle.forward_plan.proofs.Replaced.{names_same, names_set, number_named, was_named}
use Rattle.forward_plan.proofs.ports.Ports.set_table.Goals as goal

pub returns-then-is : goal.returns-then-is
returns-then-is c =
    let (e, at, mappers, was) = c.requires.changed in
    let new = c.args.mib.now.entities in
    let place = c.args.place in
    let before : c.index.result.now ≡ table_naming at.before =
    c.index.ensures
    ∙ ap (λ (l : List Naming). get_or l c.args.place c.index.result.now) was.names.tables
    ∙ get_or_from_slice_get (map table_naming e.vlans) c.args.place (table_naming at.before) c.index.result.now (was_named table_naming (λ i. refl) e.vlans new.vlans c.args.place at) in
    let same = c.is.ensures.0 c.if-is.true in
    let tables : map table_naming new.vlans ≡ map table_naming e.vlans =
    names_same table_naming (λ i. refl) e.vlans new.vlans place at c.args.now c.requires.now (same ∙ before) in
    record {
      attached = λ port fits. was.attached port fits ∙ ap Some (sym (attached_same e new port (ap (map mapper_naming) mappers) tables));
      names = record { mappers = was.names.mappers ∙ ap (map mapper_naming) (sym mappers); tables = was.names.tables ∙ sym tables };
    }

pub index_mut-requires : goal.index_mut-requires
index_mut-requires c =
    let (e, at, mappers, was) = c.requires.changed in
    let names = map table_naming e.vlans in
    let within : c.args.place < length names = slice_get_within names c.args.place _ (was_named table_naming (λ i. refl) e.vlans _ c.args.place at) in
    omega (arith, within, ap length was.names.tables)

pub returns : goal.returns
returns c =
    let (e, at, mappers, was) = c.requires.changed in
    let new = c.args.mib.now.entities in
    let place = c.args.place in
    let ports = c.args.self.now.attached in
    let between = c.attach_table.new.ports in
    let after = c.attach_table-2.new.ports in
    let before : c.index.result.now ≡ table_naming at.before =
    c.index.ensures
    ∙ ap (λ (l : List Naming). get_or l c.args.place c.index.result.now) was.names.tables
    ∙ get_or_from_slice_get (map table_naming e.vlans) c.args.place (table_naming at.before) c.index.result.now (was_named table_naming (λ i. refl) e.vlans new.vlans c.args.place at) in
    let tables = names_set table_naming (λ i. refl) e.vlans new.vlans place at c.args.now c.requires.now in
    let first : AreAttachedOrKept new ports.items between = rw c.deref_mut.ensures.value at c.attach_table.ensures.others in
    let whole = written_whole between ports.items ports.len port_count c.args.self.now.all c.attach_table.ensures.len in
    let second : AreAttachedOrKept new between after = rw (c.deref_mut-2.ensures.value, whole) at c.attach_table-2.ensures.others in
    let whole_then = written_whole after (take ports.len (between ++ drop (length between) ports.items)) ports.len port_count c.args.self.now.all c.attach_table-2.ensures.len in
    let of_before : AreOfTable new (map mapper_naming e.mappers) (table_naming at.before) between = rw (c.deref.ensures.value, was.names.mappers, before) at c.attach_table.ensures.named in
    let of_now : AreOfTable new (map mapper_naming e.mappers) c.args.now after = rw (c.deref-2.ensures.value, was.names.mappers) at c.attach_table-2.ensures.named in
    record {
      attached = rw whole_then (
          table_attached e new place (table_naming at.before) c.args.now ports.items after (was_named table_naming (λ i. refl) e.vlans new.vlans place at)
          (number_named table_naming (λ i. refl) e.vlans new.vlans place at c.args.now c.requires.now) tables mappers was.attached
          (or_kept_both new ports.items between after first second)
          (of_table_kept new (map mapper_naming e.mappers) (table_naming at.before) between after second of_before) of_now);
      names = record { mappers = was.names.mappers ∙ ap (map mapper_naming) (sym mappers); tables = ap (λ (l : List Naming). set l place c.args.now) was.names.tables ∙ sym tables };
    }
