use Rattle.std.proofs.Common.{◌≡◌, ◌∙◌, ◌++◌, Some, ap, drop, length, map, sym, take}
use Rattle.mib_state.specs.Entities.{nothing}
use Rattle.forward_plan.specs.Attachment.{AreAttachedOrKept, mapper_naming, table_naming}
use Rattle.forward_plan.specs.Ports.{port_count}
use Rattle.forward_plan.proofs.Attachments.{all_detached, attached_same}
use Rattle.forward_plan.proofs.Kept.{written_whole}
use Rattle.forward_plan.proofs.ports.Ports.follow.Goals as goal

pub returns-then-is_same : goal.returns-then-is_same
returns-then-is_same c =
    let (e, was) = c.requires in
    let new = c.args.mib.now.entities in
    let same = c.is_same.ensures.0 c.if-is_same.true in
    let mappers = same.0 in
    let tables = same.1 in
    let same_mappers : map mapper_naming new.mappers ≡ map mapper_naming e.mappers = sym c.read.ensures.mappers ∙ mappers ∙ was.names.mappers in
    let same_tables : map table_naming new.vlans ≡ map table_naming e.vlans = sym c.read.ensures.tables ∙ tables ∙ was.names.tables in
    record {
      attached = λ port fits. was.attached port fits ∙ ap Some (sym (attached_same e new port same_mappers same_tables));
      names = record { mappers = sym mappers ∙ c.read.ensures.mappers; tables = sym tables ∙ c.read.ensures.tables };
    }

pub attach_named-requires-clause-ports : goal.attach_named-requires-clause-ports
attach_named-requires-clause-ports c =
    let (e, was) = c.requires in
    let ports = c.args.self.now.attached in
    let between = c.detach.new.ports in
    let new = c.detach-2.new.ports in
    let first : AreAttachedOrKept nothing ports.items between = rw c.deref_mut.ensures.value at c.detach.ensures.others in
    let mapped = rw (c.deref.ensures.value, was.names.mappers) at c.detach.ensures.named in
    let whole = written_whole between ports.items ports.len port_count c.args.self.now.all c.detach.ensures.len in
    let second : AreAttachedOrKept nothing between new = rw (c.deref_mut-2.ensures.value, whole) at c.detach-2.ensures.others in
    let tabled = rw (c.deref-2.ensures.value, was.names.tables) at c.detach-2.ensures.named in
    let whole_then = written_whole new (take ports.len (between ++ drop (length between) ports.items)) ports.len port_count c.args.self.now.all c.detach-2.ensures.len in
    rw whole_then
    (all_detached e ports.items between new was.attached first (λ place naming held kind. mapped place naming held) second
    (λ place naming held kind. tabled place naming held))
