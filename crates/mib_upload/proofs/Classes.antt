-- The classes, one after another.
use Rattle.std.proofs.Common.{◌≡◌, ℕ, zero, suc, ◌+◌, ◌<◌, ◌≤◌, List, [], ◌∷◌, ◌++◌, length, get_or, drop, refl, arith}
use Rattle.std.specs.Prelude.{All}
use Rattle.std.specs.List.{sum_by}
use Rattle.std.proofs.lemmas.List.{drop_more, drop_all}
use Rattle.std.proofs.lemmas.List.Sums.{sum_by-drop_more}
use Rattle.managed_entity.specs.declared.class.Class.TheVariants.{OnuData, Mapper, Vlan, Interwork, GemPort}
use Rattle.managed_entity.specs.Class.{class_number}
use Rattle.mib_state.specs.Entities.{Entities, instances_of}
use Rattle.mib_upload.specs.Rows.{RowFields, classes, class_rows, AreRows, AllFit, rows_of}
use Rattle.mib_upload.specs.Room.{instance_room, class_room, shelf_room}
use Rattle.mib_upload.proofs.Joined.{Joins, joins_first, joins_next, joined, each_joined}
use Rattle.mib_upload.proofs.Once.{are_rows}

-- the numbers of the classes that the code lists are those of an upload
pub number_at : (index : ℕ) → index < 5 → class_number (get_or (OnuData ∷ Mapper ∷ Vlan ∷ Interwork ∷ GemPort ∷ []) index OnuData) ≡ get_or classes index 0
number_at zero h = refl
number_at (suc zero) h = refl
number_at (suc (suc zero)) h = refl
number_at (suc (suc (suc zero))) h = refl
number_at (suc (suc (suc (suc zero)))) h = refl
number_at (suc (suc (suc (suc (suc index))))) h = absurd (omega arith)

-- all classes have room
all_have_room : sum_by class_room classes ≡ shelf_room
unfolding class_room instance_room
all_have_room = refl

-- the rows of a class
abbrev rows_in : Entities → ℕ → List RowFields
rows_in e class = class_rows class (instances_of e class)

-- each attribute of a class fits a row
abbrev ClassFits : Entities → ℕ → Type 0
ClassFits e class = All (AllFit class) (instances_of e class)

-- the rows so far are those of the classes before the index, and what is left has room
pub record Fills (e : Entities) (index : ℕ) (rows : List RowFields) : Type 0 where
  pub joins : Joins (rows_in e) (ClassFits e) classes [] index rows
  pub room : length rows + sum_by class_room (drop index classes) ≤ shelf_room

pub fills_first : (e : Entities) → Fills e 0 []
fills_first e = record { joins = joins_first _ _ classes []; room = omega (arith, all_have_room) }

module _ (e : Entities) (index : ℕ) (rows : List RowFields) (kept : Fills e index rows) where
  pub class_has_room : index < length classes → length rows + class_room (get_or classes index 0) ≤ shelf_room
  class_has_room h = omega (arith, kept.room, sum_by-drop_more class_room classes index 0 h)

  pub fills_next : index < length classes → (rows' : List RowFields)
      → rows' ≡ rows ++ rows_in e (get_or classes index 0)
      → length rows' ≤ length rows + class_room (get_or classes index 0)
      → ClassFits e (get_or classes index 0)
      → Fills e (index + 1) rows'
  fills_next h rows' grown longer fit = record {
    joins = joins_next _ _ _ _ _ _ kept.joins (get_or classes index 0) (drop_more classes index 0 h) rows' grown fit;
    room = omega (arith, kept.room, sum_by-drop_more class_room classes index 0 h, longer);
  }

  pub few_rows : length rows ≤ shelf_room
  few_rows = omega (arith, kept.room)

  module _ (past : length classes ≤ index) where
    pub filled_all : rows ≡ rows_of e
    unfolding rows_of
    filled_all = joined _ _ _ _ _ _ kept.joins (drop_all index classes past)

    -- at the end the rows are those of the entities
    pub are_filled : AreRows e rows
    are_filled = rw filled_all (are_rows e (each_joined _ _ _ _ _ _ kept.joins (drop_all index classes past)))
