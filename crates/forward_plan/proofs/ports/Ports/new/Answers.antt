use Rattle.std.proofs.Common.{refl}
use Rattle.forward_plan.specs.Ports.{port_count}
use Rattle.forward_plan.proofs.Attachments.{all_none}
use Rattle.forward_plan.proofs.ports.Ports.new.Goals as goal

pub returns : goal.returns
returns c = record {
  attached = all_none port_count c.in_ok-vec.field-0.items _ (c.in_ok-vec.ensures.items_if_clones_equal (λ y is. is)) refl;
  names = c.in_ok-new.ensures;
}
