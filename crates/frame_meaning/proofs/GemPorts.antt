-- What each entity on the way to a GEM port means, by the fields that code keeps it in.
use Rattle.std.proofs.Common.{◌≡◌, ℕ, ◌^◌, ◌<◌, Bool, true, false, Option, Some, Ok, List, refl, ap, sym, ◌∙◌}
use Rattle.std.specs.Prelude.{ok_or, Result}
use Rattle.std.specs.Bool.{then_some}
use Rattle.tag_view.specs.Tag.{TagFields}
use Rattle.pmapper.specs.declared.mapper.Mapper.{Mapper}
use Rattle.pmapper.specs.declared.interwork.Interwork.{Interwork}
use Rattle.pmapper.specs.declared.gem_port.GemPort.{GemPort}
use Rattle.mib_state.specs.Entities.{Entities, find}
use Rattle.managed_entity.specs.Instance.{Instance}
use Rattle.managed_entity.specs.Shown.{mapper_instance, interwork_instance, gem_port_instance}
use Rattle.frame_meaning.specs.declared.reason.Reason.{Reason}
use Rattle.frame_meaning.specs.declared.reason.Reason.TheVariants.{Direction}
use Rattle.pmapper.specs.Mapper.{pointer_of, priority_of, unmarked_of}
use Rattle.frame_meaning.specs.Meaning.{mapper_at, pointers_at, carries_upstream, port_id_of, gem_port_behind, gem_port_of, gem_port_at}
use Rattle.frame_meaning.proofs.Numbers.{gem_port_pointer_number, port_id_number, unmarked_is}

-- a port-ID, if its GEM port carries frames upstream
pub id_upstream : (n : ℕ) (gem : GemPort) (carries : Bool) → gem.port_id < 2 ^ 16 → carries ≡ carries_upstream (gem_port_instance n gem)
    → ok_or (then_some carries gem.port_id) Direction ≡ port_id_of (gem_port_instance n gem)
unfolding port_id_of
id_upstream n gem true fits is = rw (← is) (ap Ok (sym (port_id_number n gem fits)))
id_upstream n gem false fits is = rw (← is) refl

-- where the pointer of an interworking termination point leads to
pub behind_some : (e : Entities) (n : ℕ) (t : Interwork) (i : Instance) → t.gem_port_pointer < 2 ^ 16 → find t.gem_port_pointer e.gem_ports ≡ Some i
    → gem_port_behind e (interwork_instance n t) ≡ port_id_of i
unfolding gem_port_behind
behind_some e n t i fits there = rw (gem_port_pointer_number n t fits, there) refl

-- where the pointer of a mapper leads to
pub of_some : (e : Entities) (mapper : Instance) (priority pointer : ℕ) (point : Instance) → pointer_of (pointers_at mapper) priority ≡ Some pointer
    → find pointer e.interworks ≡ Some point → gem_port_of e mapper priority ≡ gem_port_behind e point
unfolding gem_port_of
of_some e mapper priority pointer point is there = rw (is, there) refl

-- the mapper of a port, whatever its number
pub at_mapper : (e : Entities) (port : ℕ) (tags : List TagFields) (dscp : Option ℕ) (m : Mapper) (priority : ℕ) (found : Result ℕ Reason)
    → (n : ℕ) × (mapper_at e port ≡ Some (mapper_instance n m)) → priority ≡ priority_of (unmarked_of m) tags dscp
    → ((n : ℕ) → found ≡ gem_port_of e (mapper_instance n m) priority) → found ≡ gem_port_at e port tags dscp
unfolding gem_port_at
at_mapper e port tags dscp m priority found (n, there) is_priority is_found =
    let unmarked = unmarked_is n m in
    is_found n ∙ rw (there, unmarked, is_priority) refl
