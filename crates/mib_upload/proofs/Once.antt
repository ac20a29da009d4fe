-- The entities have one list of rows, and the computed one is it.
use Rattle.std.proofs.Common.{◌≡◌, ℕ, List, [], ◌∷◌, ◌++◌, map, refl, sym, ap, ◌∙◌}
use Rattle.std.specs.Prelude.{All}
use Rattle.std.specs.List.{flat_map}
use Rattle.std.proofs.lemmas.List.Concat.{flat_map-append}
use Rattle.std.proofs.lemmas.List.Elements.{All-nil, All-head, All-tail, All-append, All-map}
use Rattle.mib_state.specs.Entities.{Entities, instances_of}
use Rattle.mib_state.specs.Held.{Entity, of_class}
use Rattle.managed_entity.specs.Instance.{Instance}
use Rattle.mib_upload.specs.Rows.{RowFields, row_of, attributes, classes, in_order, instance_rows, class_rows, AreInstanceRows, AreRowsOfEach, AreRows, rows_of, AllFit, EachFits}
use Rattle.mib_upload.proofs.Parts.{parts_from, filled_parts, parted, parted_once}

are_instance_rows : (class : ℕ) (i : Instance) → AllFit class i → AreInstanceRows class i (instance_rows class i)
are_instance_rows class i each = record {
  parts = parts_from [] (attributes class i);
  parted = parted (attributes class i) each;
  are = filled_parts class i.number [] (attributes class i);
}

only_instance_rows : (class : ℕ) (i : Instance) (rows : List RowFields) → AreInstanceRows class i rows → rows ≡ instance_rows class i
only_instance_rows class i rows are =
    are.are ∙ (ap (map (row_of class i.number)) (parted_once (attributes class i) are.parts are.parted) ∙ sym (filled_parts class i.number [] (attributes class i)))

-- the rows of instances, computed
abbrev rows_of_each : List Entity → List RowFields
rows_of_each entities = flat_map (λ (entity : Entity). instance_rows entity.class entity.instance) entities

abbrev FitsEach : Entity → Type 0
FitsEach entity = AllFit entity.class entity.instance

are_rows_of_each : (entities : List Entity) → All FitsEach entities → AreRowsOfEach entities (rows_of_each entities)
are_rows_of_each [] each = refl
are_rows_of_each (entity ∷ rest) each = (
  instance_rows entity.class entity.instance,
  rows_of_each rest,
  refl,
  are_instance_rows entity.class entity.instance (All-head FitsEach entity rest each),
  are_rows_of_each rest (All-tail FitsEach entity rest each),
)

only_rows_of_each : (entities : List Entity) (rows : List RowFields) → AreRowsOfEach entities rows → rows ≡ rows_of_each entities
only_rows_of_each [] rows are = are
only_rows_of_each (entity ∷ rest) rows (first, later, split, here, there) =
    let a : first ≡ instance_rows entity.class entity.instance = only_instance_rows entity.class entity.instance first here in
    let b : later ≡ rows_of_each rest = only_rows_of_each rest later there in
    rw (split, a, b) refl

-- in the order of an upload they are the rows of each class
class_rows_of_each : (class : ℕ) (l : List Instance) → rows_of_each (map (of_class class) l) ≡ class_rows class l
class_rows_of_each class [] = refl
class_rows_of_each class (i ∷ l) = ap (λ rows. instance_rows class i ++ rows) (class_rows_of_each class l)

rows_in_order : (e : Entities) (cs : List ℕ)
    → rows_of_each (flat_map (λ class. map (of_class class) (instances_of e class)) cs) ≡ flat_map (λ class. class_rows class (instances_of e class)) cs
rows_in_order e [] = refl
rows_in_order e (class ∷ cs) =
    flat_map-append (λ (entity : Entity). instance_rows entity.class entity.instance) (map (of_class class) (instances_of e class)) _
    ∙ rw (class_rows_of_each class (instances_of e class), rows_in_order e cs) refl

each_in_order : (e : Entities) (cs : List ℕ) → All (λ class. All (AllFit class) (instances_of e class)) cs
    → All FitsEach (flat_map (λ class. map (of_class class) (instances_of e class)) cs)
each_in_order e [] each = All-nil FitsEach
each_in_order e (class ∷ cs) each =
    All-append FitsEach _ _
    (All-map FitsEach (of_class class) (instances_of e class) (All-head (λ class. All (AllFit class) (instances_of e class)) class cs each))
    (each_in_order e cs (All-tail (λ class. All (AllFit class) (instances_of e class)) class cs each))

pub are_rows : (e : Entities) → EachFits e → AreRows e (rows_of e)
unfolding rows_of
are_rows e each = rw (← rows_in_order e classes) (are_rows_of_each (in_order e) (each_in_order e classes each))

pub only_rows : (e : Entities) (rows : List RowFields) → AreRows e rows → rows ≡ rows_of e
unfolding rows_of
only_rows e rows are = only_rows_of_each (in_order e) rows are ∙ rows_in_order e classes
