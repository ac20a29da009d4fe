-- What a Get returns of each attribute.
use Rattle.std.proofs.Common.{◌≡◌, ℕ, zero, suc, ◌≤◌, false, List, [], ◌∷◌, length, refl, ap, arith}
use Rattle.std.specs.Prelude.{slice_get}
use Rattle.managed_entity.specs.declared.attribute.Attribute.{Attribute}
use Rattle.managed_entity.specs.Class.{table_at}
use Rattle.managed_entity.specs.Get.{returned_values}

pub returned_count : (layout : List Attribute) (values entries : List (List ℕ)) → length values ≡ length layout → length (returned_values layout values entries) ≡ length layout
returned_count [] values entries e = refl
returned_count (a ∷ layout) [] entries e = absurd (omega arith)
returned_count (a ∷ layout) (v ∷ values) entries e = ap suc (returned_count layout values entries (omega arith))

-- what isn't the table is returned as it is
pub plain_values : (layout : List Attribute) (values entries : List (List ℕ)) (place : ℕ) → length values ≡ length layout → table_at layout place ≡ false → slice_get (returned_values layout values entries) place ≡ slice_get values place
plain_values [] [] entries place e t = refl
plain_values [] (v ∷ values) entries place e t = absurd (omega arith)
plain_values (a ∷ layout) [] entries place e t = absurd (omega arith)
plain_values (a ∷ layout) (v ∷ values) entries zero e t = rw t refl
plain_values (a ∷ layout) (v ∷ values) entries (suc place) e t = plain_values layout values entries place (omega arith) t

-- where there is no attribute there is no table
pub table_past : (layout : List Attribute) (place : ℕ) → length layout ≤ place → table_at layout place ≡ false
table_past [] place h = refl
table_past (a ∷ layout) zero h = absurd (omega arith)
table_past (a ∷ layout) (suc place) h = table_past layout place (omega arith)
