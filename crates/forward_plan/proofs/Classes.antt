-- Which class a number is of.
use Rattle.std.proofs.Common.{◌≡◌, ◌≢◌, ◌⊎◌, ℕ, None, ap, inl, inr, sym, arith, ◌∙◌}
use Rattle.std.proofs.lemmas.Option.{none-some}
use Rattle.managed_entity.specs.Class.{class_number, class_of, mapper_class, vlan_class}
use Rattle.managed_entity.specs.declared.class.Class.{Class}
use Rattle.managed_entity.specs.declared.class.Class.TheVariants.{GemPort, Interwork, Mapper, OnuData, Vlan}
use Rattle.mib_state.specs.Entities.{Entities}
use Rattle.mib_state.specs.Touch.{AreSame, AreSameButOne}

-- no instance differs where the class isn't known
pub none_touched : (class n : ℕ) (old new : Entities) → class_of class ≡ None → AreSameButOne class n old new → AreSame old new
none_touched class n old new unknown same = record {
  mappers = same.mappers.elsewhere (λ is. none-some Mapper (sym unknown ∙ ap class_of (sym is)));
  vlans = same.vlans.elsewhere (λ is. none-some Vlan (sym unknown ∙ ap class_of (sym is)));
  interworks = same.interworks.elsewhere (λ is. none-some Interwork (sym unknown ∙ ap class_of (sym is)));
  gem_ports = same.gem_ports.elsewhere (λ is. none-some GemPort (sym unknown ∙ ap class_of (sym is)));
}

-- a number is neither that of tables nor that of mappers
pub record IsOther (class : ℕ) : Type 0 where
  pub tables : vlan_class ≢ class
  pub mappers : mapper_class ≢ class

-- that of any other class isn't
pub other_class : (class : ℕ) (known : Class) → class ≡ class_number known → (known ≡ OnuData) ⊎ (known ≡ Interwork) ⊎ (known ≡ GemPort) → IsOther class
other_class class known number (inl is) =
    let it : class ≡ class_number OnuData = rw is at number in
    record { tables = λ same. absurd (omega (arith, it, same)); mappers = λ same. absurd (omega (arith, it, same)) }
other_class class known number (inr (inl is)) =
    let it : class ≡ class_number Interwork = rw is at number in
    record { tables = λ same. absurd (omega (arith, it, same)); mappers = λ same. absurd (omega (arith, it, same)) }
other_class class known number (inr (inr is)) =
    let it : class ≡ class_number GemPort = rw is at number in
    record { tables = λ same. absurd (omega (arith, it, same)); mappers = λ same. absurd (omega (arith, it, same)) }
