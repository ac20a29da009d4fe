-- Frames told apart, field by field: which values stand for which others.
use Rattle.std.specs.Prelude.{◌≡◌, ◌≢◌, ◌<◌, ◌≤◌, ◌⊎◌, ℕ, Bool, true, false, IsTrue, List, All, Any, Contains, Option, Some, length, min, slice_index_or, take}
use Rattle.std.specs.List.{list_any}
use Rattle.tag_view.specs.Tag.{is_tag_type}
use Rattle.frame_rows.specs.declared.class.Use.{Use}
use Rattle.frame_rows.specs.declared.field.Field.{Field}
use Rattle.frame_rows.specs.declared.field.Field.TheVariants.{Length}
use Rattle.frame_rows.specs.declared.field.Values.{Values}
use Rattle.frame_rows.specs.declared.row.Row.{Row}
use Rattle.frame_classes.specs.declared.found.Sample.{Sample}
use Rattle.frame_rows.specs.Sight.{Side}
use Rattle.frame_classes.specs.Classes.{IsFrame}
use Rattle.frame_rows.specs.Field.{counted_length, end_of, fields, place_of, value_at, values_of, with_value}
use Rattle.frame_rows.specs.Words.{limit_of}
use Rattle.frame_classes.specs.Found.{Ascend, told_of}
use Rattle.frame_rows.specs.Row.{passes, row_admits, row_marks, row_reads}
use Rattle.frame_classes.specs.declared.told.Told.{Told}
use Rattle.frame_classes.specs.Told.{is_wanted, rows_of_all, told_by, told_fits}
use Rattle.frame_classes.specs.Left.{rows_at}
use Rattle.frame_classes.specs.Settled.{is_settled}

-- ---- values that a frame can have

-- a value of a field, in a frame of this length, one of those of at least so many bytes
pub record CanBe (least length : ℕ) (field : Field) (value : ℕ) : Type 0 where
  pub below : value < limit_of field
  -- a field that a frame is too short for is 0
  pub absent : length < end_of field → value ≡ 0
  pub long : place_of field ≡ 0 → min counted_length least ≤ value

-- a frame of at least so many bytes has these values of some fields
abbrev pub IsOf : ℕ → List Field → Values → Type 0
IsOf least some values = All (λ field. CanBe least (value_at Length values) field (value_at field values)) some

-- ---- values that stand for others

-- for a row, a value of a field, behind those before it, stands for one of other values
pub record StandsFor (row : Row) (field : Field) (values : Values) (value : ℕ) (others : Values) (other : ℕ) : Type 0 where
  pub admits : row_admits row field value ≡ row_admits row field other
  pub reads : row_admits row field value ≡ true → row_reads row values field value ≡ row_reads row others field other
  pub marks : row_admits row field value ≡ true → row_marks row values field value ≡ row_marks row others field other

-- for some rows
pub record Stands (rows : List Row) (field : Field) (values others : Values) (value : ℕ) : Type 0 where
  pub each : All (λ row. StandsFor row field values value others (value_at field others)) rows
  -- a length stands for those that aren't greater
  pub longer : place_of field ≡ 0 → value_at Length others ≤ value

-- no row tells values from others by some fields
pub record IsNear (rows : List Row) (some : List Field) (values others : Values) : Type 0 where
  pub alike : All (λ row. passes some row values ≡ passes some row others) rows
  pub read_alike : All (λ row. passes some row values ≡ true
      → All (λ field. row_reads row values field (value_at field values) ≡ row_reads row others field (value_at field others)) some) rows
  pub marked_alike : All (λ row. passes some row values ≡ true
      → All (λ field. row_marks row values field (value_at field values) ≡ row_marks row others field (value_at field others)) some) rows
  -- each field that the others' frame has is there
  pub longer : 0 < length some → value_at Length others ≤ value_at Length values

-- ---- what is told of frames

-- a sample tells what its values say, and some frame has them
pub record IsSample (sides : List Side) (least : ℕ) (sample : Sample) : Type 0 where
  pub told : told_by sides sample.values ≡ Some sample.told
  pub values : IsOf least fields sample.values
  pub fits : IsTrue (told_fits sample.told)

-- what is told beside what was: this stays, each sample tells what it says, and they are in order
pub record AreMore (sides : List Side) (least : ℕ) (before after : List Sample) : Type 0 where
  pub kept : (told : Told) → Contains (told_of before) told → Contains (told_of after) told
  pub samples : All (IsSample sides least) after
  pub ascend : Ascend after

-- values that are these in the fields before a level
abbrev pub Agree : ℕ → Values → Values → Type 0
Agree level values others = (length others.values ≡ 11) × (take level others.values ≡ take level values.values)

-- what is told of every frame with these values in the fields before a level, and looked for, is there
pub record AreAllFound (sides : List Side) (wanted : Option Use) (least level : ℕ) (values : Values) (samples : List Sample) : Type 0 where
  pub found : (others : Values) (told : Told) → IsOf least fields others → Agree level values others
      → told_by sides others ≡ Some told → is_wanted wanted told ≡ true → Contains (told_of samples) told

-- some samples tell what is looked for
abbrev pub AreWanted : Option Use → List Sample → Type 0
AreWanted wanted samples = All (λ sample. is_wanted wanted sample.told ≡ true) samples

-- what some sides tell of all frames, and is looked for: each sample tells what it says, everything that is told is there, and it is in
-- order
pub record AreTold (sides : List Side) (wanted : Option Use) (least : ℕ) (samples : List Sample) : Type 0 where
  pub samples_tell : All (IsSample sides least) samples
  pub wanted_all : AreWanted wanted samples
  pub every : (others : Values) (told : Told) → IsOf least fields others → length others.values ≡ 11 → told_by sides others ≡ Some told
      → is_wanted wanted told ≡ true → Contains (told_of samples) told
  pub ascend : Ascend samples

-- ---- examples

-- the values of a sample are those of a frame, if there is one
pub record IsFrameOf (least : ℕ) (sample : Sample) (bytes : List ℕ) : Type 0 where
  pub frame : IsOf least fields sample.values → IsFrame least bytes
  pub values : IsOf least fields sample.values → values_of bytes ≡ sample.values

-- such are those of the first so many samples
pub record AreExamplesOf (least count : ℕ) (samples : List Sample) (examples : List (Told × List ℕ)) : Type 0 where
  pub count_same : length examples ≡ count
  pub told : (k : ℕ) (d : Sample) (other : Told × List ℕ) → k < count → (slice_index_or examples k other).0 ≡ (slice_index_or samples k d).told
  pub each : (k : ℕ) (d : Sample) (other : Told × List ℕ) → k < count → IsFrameOf least (slice_index_or samples k d) (slice_index_or examples k other).1

-- ---- which values are looked at

-- as many values are such as there are sides: whatever fewer are avoided, one is left
abbrev pub HasSeveral : ℕ → (ℕ → Type 0) → Type 0
HasSeveral count good = (avoided : List ℕ) → length avoided < count → (c : ℕ) × (good c × All (λ other. c ≢ other) avoided)

-- a type begins a tag for some side
abbrev pub begins_tag : List Side → ℕ → Bool
begins_tag sides type = list_any (λ side. is_tag_type side.settings.input_tpid type) sides

-- whatever the value of a field is, the bytes with which two sides' frames leave differ, or not: it is the length, or a type that
-- begins no tag; or there is one side
pub record IsApart (sides : List Side) (field : Field) (value : ℕ) : Type 0 where
  pub early : place_of field < 4
  pub type : (begins_tag sides value ≡ false ⊎ length sides ≤ 1) ⊎ (place_of field ≡ 0 ⊎ place_of field ≡ 3)

-- the others' value is looked at; or as many that stand for it as there are sides; or one, where no bytes depend on it
abbrev pub IsCovered : List Side → List ℕ → List Row → Field → Values → Values → List ℕ → Type 0
IsCovered sides places left field values others choices =
    Contains choices (value_at field others)
    ⊎ (((3 < place_of field) × HasSeveral (length sides) (λ c. Contains choices c × Stands left field values others c))
    ⊎ ((IsApart sides field (value_at field others) ⊎ ((6 < place_of field) × (is_settled sides places field ≡ true)))
    × Any (Stands left field values others) choices))

-- values of a field, behind those before it, cover all of frames of at least so many bytes
pub record AreCovering (sides : List Side) (places : List ℕ) (least : ℕ) (field : Field) (values : Values) (choices : List ℕ) : Type 0 where
  pub within : All (CanBe least (value_at Length values) field) choices
  pub each : (others : Values) → IsOf least fields others → IsNear (rows_of_all sides) (take (place_of field) fields) values others
      → IsCovered sides places (rows_at (rows_of_all sides) places) field values others choices

-- for each frame with these values before a field, what is told of it is told with one of these values, too
pub record AreChoices (sides : List Side) (least : ℕ) (field : Field) (values : Values) (choices : List ℕ) : Type 0 where
  pub within : All (CanBe least (value_at Length values) field) choices
  pub each : (others : Values) (told : Told) → IsOf least fields others → Agree (place_of field) values others → told_by sides others ≡ Some told
      → Any (λ c. IsOf least fields (with_value field c others) × (told_by sides (with_value field c others) ≡ Some told)) choices
