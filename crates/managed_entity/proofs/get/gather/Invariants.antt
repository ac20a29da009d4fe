use Rattle.managed_entity.specs.Get.{returned_values}
use Rattle.managed_entity.proofs.Gathered.{Keeps}
use Rattle.managed_entity.proofs.get.gather.Given as goal

abbrev pub invariant-loop-place : goal.invariant-loop-place
invariant-loop-place g l = Keeps l.mask (returned_values g.E.ManagedEntity.layout (g.E.ManagedEntity.values l.entity) (g.E.ManagedEntity.entries l.entity)) l.place l.returned l.left_out l.bytes.items
