use Rattle.std.proofs.Common.{◌++◌, drop, length, take}
use Rattle.forward_plan.specs.Attachment.{AreAttachedOrKept}
use Rattle.forward_plan.specs.Ports.{port_count}
use Rattle.forward_plan.proofs.Attachments.{all_mapped, all_tabled}
use Rattle.forward_plan.proofs.Kept.{written_whole}
use Rattle.forward_plan.proofs.ports.Ports.attach_named.Goals as goal

pub returns : goal.returns
returns c =
    let e = c.args.mib.now.entities in
    let ports = c.args.self.now.attached in
    let between = c.attach.new.ports in
    let new = c.attach-2.new.ports in
    let others : AreAttachedOrKept e ports.items between = rw c.deref_mut.ensures.value at c.attach.ensures.others in
    let named = rw (c.deref.ensures.value, c.requires.names.mappers) at c.attach.ensures.named in
    let mapped = all_mapped e ports.items between others c.requires.ports named in
    let whole = written_whole between ports.items ports.len port_count c.args.self.now.all c.attach.ensures.len in
    let others_then : AreAttachedOrKept e between new = rw (c.deref_mut-2.ensures.value, whole) at c.attach-2.ensures.others in
    let named_then = rw (c.deref-2.ensures.value, c.requires.names.tables) at c.attach-2.ensures.named in
    let tabled = all_tabled e between new others_then mapped named_then in
    let whole_then = written_whole new (take ports.len (between ++ drop (length between) ports.items)) ports.len port_count c.args.self.now.all c.attach-2.ensures.len in
    record { attached = rw whole_then tabled; names = record { mappers = c.requires.names.mappers; tables = c.requires.names.tables } }
