use Rattle.std.proofs.Common.{◌≡◌, length}
use Rattle.forward_plan.specs.declared.naming.Naming.{Naming}
use Rattle.forward_plan.specs.Attachment.{AreAttachedOrKept}
use Rattle.forward_plan.specs.Ports.{port_count}
use Rattle.forward_plan.proofs.Attachments.{AreNamedAttached}
use Rattle.forward_plan.proofs.attaching.attach.Given as goal

abbrev pub invariant-loop-naming : goal.invariant-loop-naming
invariant-loop-naming l = record {
  len : length l.ports ≡ port_count;
  named : AreNamedAttached l.mib.entities (λ (n : Naming). n.kind ≡ l.kind) l.names l.ports l.naming-index;
  others : AreAttachedOrKept l.mib.entities l.fn.ports l.ports;
}
