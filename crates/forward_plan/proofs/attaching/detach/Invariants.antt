use Rattle.std.proofs.Common.{◌≡◌, length}
use Rattle.mib_state.specs.Entities.{nothing}
use Rattle.forward_plan.specs.declared.naming.Naming.{Naming}
use Rattle.forward_plan.specs.Attachment.{AreAttachedOrKept}
use Rattle.forward_plan.specs.Ports.{port_count}
use Rattle.forward_plan.proofs.Attachments.{AreNamedAttached}
use Rattle.forward_plan.proofs.attaching.detach.Given as goal

abbrev pub invariant-loop-naming : goal.invariant-loop-naming
invariant-loop-naming l = record {
  len : length l.ports ≡ port_count;
  named : AreNamedAttached nothing (λ (n : Naming). n.kind ≡ n.kind) l.names l.ports l.naming-index;
  others : AreAttachedOrKept nothing l.fn.ports l.ports;
}
