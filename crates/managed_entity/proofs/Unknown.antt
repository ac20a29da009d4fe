-- What isn't known of a class.
use Rattle.std.proofs.Common.{◌≡◌, ℕ, List, [], Option, Some, None, false, refl, sym}
use Rattle.std.specs.Prelude.{is_some, unwrap_or}
use Rattle.std.proofs.lemmas.Bool.{false≢true}
use Rattle.managed_entity.specs.declared.attribute.Attribute.{Attribute}
use Rattle.managed_entity.specs.Class.{attributes_of, is_known, layout_of}

none_there : (layout : Option (List Attribute)) → is_some layout ≡ false → unwrap_or layout [] ≡ []
none_there None absent = refl
none_there (Some layout) absent = absurd (false≢true (sym absent))

-- a class that isn't known has no attributes
pub no_attributes : (class : ℕ) → is_known class ≡ false → attributes_of class ≡ []
no_attributes class unknown = none_there (layout_of class) unknown
