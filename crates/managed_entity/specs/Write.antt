-- Writing attributes: what Create gives an instance, and what a Set names.
use Rattle.std.specs.Prelude.{ℕ, suc, List, [], ◌∷◌, if◌then◌else◌, take, drop, map}
use Rattle.managed_entity.specs.declared.attribute.Attribute.{Attribute}
use Rattle.managed_entity.specs.Class.{initial_value, initial_entries, is_table}
use Rattle.managed_entity.specs.Instance.{Instance}
use Rattle.managed_entity.specs.Mask.{names, given_mask}

-- the values after those of the attributes that a mask names are taken from the bytes, one after another; the table
-- has none
abbrev pub written : ℕ → ℕ → List Attribute → List ℕ → List (List ℕ) → List (List ℕ)
written mask place [] bytes values = values
written mask place (a ∷ rest) bytes [] = []
written mask place (a ∷ rest) bytes (v ∷ values) =
    if names mask place then (if is_table a.access then v else take a.width bytes) ∷ written mask (suc place) rest (drop a.width bytes) values
    else v ∷ written mask (suc place) rest bytes values

-- an instance after Create: its set-by-create attributes are those of the contents
abbrev pub created : List Attribute → ℕ → List ℕ → Instance
created layout n contents = record {
  number = n;
  values = written (given_mask 0 layout) 0 layout contents (map initial_value layout);
  entries = initial_entries layout;
}
