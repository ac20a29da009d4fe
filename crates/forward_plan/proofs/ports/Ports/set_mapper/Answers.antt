use Rattle.std.proofs.Common.{◌≡◌, ◌∙◌, ◌<◌, List, Some, get_or, subst, refl, ap, sym, arith, length, map, set}
use Rattle.std.proofs.lemmas.Option.{get_or_from_slice_get, slice_get_within}
use Rattle.forward_plan.specs.declared.naming.Naming.{Naming}
use Rattle.forward_plan.specs.Attachment.{AreAttachedOrKept, IsAttachedIn, mapper_naming, table_naming}
use Rattle.forward_plan.specs.Ports.{port_count}
use Rattle.forward_plan.proofs.Attachments.{attached_same, mapper_attached}
use Rattle.forward_plan.proofs.Kept.{written_whole}
use Rattle.forward_plan.proofs.Replaced.{names_same, names_set, number_named, was_named}
use Rattle.forward_plan.proofs.ports.Ports.set_mapper.Goals as goal

pub returns-then-is : goal.returns-then-is
returns-then-is c =
    let (e, at, vlans, was) = c.requires.changed in
    let new = c.args.mib.now.entities in
    let before : c.index.result.now ≡ mapper_naming at.before =
    c.index.ensures
    ∙ ap (λ (l : List Naming). get_or l c.args.place c.index.result.now) was.names.mappers
    ∙ get_or_from_slice_get (map mapper_naming e.mappers) c.args.place (mapper_naming at.before) c.index.result.now (was_named mapper_naming (λ i. refl) e.mappers new.mappers c.args.place at) in
    let same = c.is.ensures.0 c.if-is.true in
    let mappers : map mapper_naming new.mappers ≡ map mapper_naming e.mappers =
    names_same mapper_naming (λ i. refl) e.mappers new.mappers c.args.place at c.args.now c.requires.now (same ∙ before) in
    record {
      attached = λ port fits. was.attached port fits ∙ ap Some (sym (attached_same e new port mappers (ap (map table_naming) vlans)));
      names = record { mappers = was.names.mappers ∙ sym mappers; tables = was.names.tables ∙ ap (map table_naming) (sym vlans) };
    }

pub index_mut-requires : goal.index_mut-requires
index_mut-requires c =
    let (e, at, vlans, was) = c.requires.changed in
    let names = map mapper_naming e.mappers in
    let within : c.args.place < length names = slice_get_within names c.args.place _ (was_named mapper_naming (λ i. refl) e.mappers _ c.args.place at) in
    omega (arith, within, ap length was.names.mappers)

pub returns : goal.returns
returns c =
    let (e, at, vlans, was) = c.requires.changed in
    let new = c.args.mib.now.entities in
    let place = c.args.place in
    let ports = c.args.self.now.attached in
    let after = c.attach.new.ports in
    let before : c.index.result.now ≡ mapper_naming at.before =
    c.index.ensures
    ∙ ap (λ (l : List Naming). get_or l c.args.place c.index.result.now) was.names.mappers
    ∙ get_or_from_slice_get (map mapper_naming e.mappers) c.args.place (mapper_naming at.before) c.index.result.now (was_named mapper_naming (λ i. refl) e.mappers new.mappers c.args.place at) in
    let mappers = names_set mapper_naming (λ i. refl) e.mappers new.mappers place at c.args.now c.requires.now in
    let others : AreAttachedOrKept new ports.items after = rw c.deref_mut.ensures.value at c.attach.ensures.others in
    let whole = written_whole after ports.items ports.len port_count c.args.self.now.all c.attach.ensures.len in
    record {
      attached = rw whole (
          mapper_attached e new place (mapper_naming at.before) c.args.now ports.items after (was_named mapper_naming (λ i. refl) e.mappers new.mappers place at)
          (number_named mapper_naming (λ i. refl) e.mappers new.mappers place at c.args.now c.requires.now)
          mappers vlans was.attached others
          (λ kind. subst (λ (n : Naming). IsAttachedIn new after n.to) before (c.attach.ensures.named 0 _ refl (ap (λ (n : Naming). n.kind) before ∙ kind))) (λ kind. c.attach.ensures.named 1 c.args.now refl kind));
      names = record { mappers = ap (λ (l : List Naming). set l place c.args.now) was.names.mappers ∙ sym mappers; tables = was.names.tables ∙ ap (map table_naming) (sym vlans) };
    }
