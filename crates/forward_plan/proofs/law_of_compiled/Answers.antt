-- At each place both plans have what the entities say.
use Rattle.std.proofs.Common.{◌≡◌, ℕ, List, Some, sym, ◌∙◌}
use Rattle.std.specs.Prelude.{slice_get}
use Rattle.managed_entity.specs.Instance.{Instance}
use Rattle.mib_state.specs.Entities.{Entities}
use Rattle.port_plan.specs.declared.routes.Routes.{Routes}
use Rattle.port_plan.specs.Plan.{TablePlan}
use Rattle.forward_plan.specs.declared.part.Part.{Part}
use Rattle.forward_plan.specs.Compiled.{AreSameAt, AreSameRoutes, IsSameTable}
use Rattle.forward_plan.specs.Parts.{AreParts, IsMapper, IsTable}
use Rattle.forward_plan.proofs.law_of_compiled.Goals as goal

-- what two parts of an instance are compiled to is the same, where all that it may be compiled to is
same_at : {T : Type 0} (Is : Instance → T → Type 0) (Same : T → T → Type 0) → ((i : Instance) (x y : T) → Is i x → Is i y → Same x y)
    → (instances : List Instance) (one other : List (Part T)) → AreParts Is instances one → AreParts Is instances other
    → (place : ℕ) (i : Instance) → slice_get instances place ≡ Some i → AreSameAt Same one other place
same_at Is Same same instances one other first second place i held =
    let a = first.kept place i held in
    let b = second.kept place i held in
    record { left = a.kept; right = b.kept; in_one = a.held; in_other = b.held; same = same i a.kept.compiled b.kept.compiled a.right b.right }

same_table : (i : Instance) (x y : TablePlan) → IsTable i x → IsTable i y → IsSameTable x y
same_table i x y first second = first ∙ sym second

same_routes : (e : Entities) (i : Instance) (x y : Routes) → IsMapper e i x → IsMapper e i y → AreSameRoutes x y
same_routes e i x y first second = record {
  by_priority = λ priority small. first.by_priority priority small ∙ sym (second.by_priority priority small);
  untagged = λ dscp fits. first.untagged dscp fits ∙ sym (second.untagged dscp fits);
}

pub returns : goal.returns
returns c = λ e one other first second. record {
  tables = same_at IsTable IsSameTable same_table e.vlans one.tables.items other.tables.items first.of_tables second.of_tables;
  mappers = same_at (IsMapper e) AreSameRoutes (same_routes e) e.mappers one.mappers.items other.mappers.items first.of_mappers second.of_mappers;
  ports = λ port fits. first.of_ports.attached port fits ∙ sym (second.of_ports.attached port fits);
}
