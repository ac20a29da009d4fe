use Rattle.std.proofs.Common.{◌≡◌, length}
use Rattle.forward_plan.specs.declared.naming.Naming.{Naming}
use Rattle.forward_plan.specs.Attachment.{AreAttachedOrKept, IsMapperOfPort}
use Rattle.forward_plan.specs.Ports.{port_count}
use Rattle.forward_plan.proofs.Attachments.{AreNamedAttached}
use Rattle.forward_plan.proofs.attaching.attach_mapped.Given as goal

abbrev pub invariant-loop-mapper : goal.invariant-loop-mapper
invariant-loop-mapper l = record {
  len : length l.ports ≡ port_count;
  named : AreNamedAttached l.mib.entities (λ (n : Naming). IsMapperOfPort l.number n) l.mappers l.ports l.mapper-index;
  others : AreAttachedOrKept l.mib.entities l.fn.ports l.ports;
}
