-- What a port sees otherwise by two configurations, or by one between two others: each that some frame has, once, with a frame that has
-- it. A frame is any list of bytes.
use Rattle.std.specs.Prelude.{◌≡◌, ℕ, ◌+◌, ◌*◌, ◌^◌, Bool, true, false, ◌&&◌, List, All, Contains, Some, map}
use Rattle.std.specs.List.Sorted.{IsStrictlyIncreasing}
use Rattle.mib_state.specs.Entities.{Entities}
use Rattle.frame_rows.specs.declared.class.FrameClass.{FrameClass}
use Rattle.frame_rows.specs.declared.class.Use.{Use}
use Rattle.frame_rows.specs.declared.field.Values.{Values}
use Rattle.frame_rows.specs.Class.{class_number, class_of}
use Rattle.frame_rows.specs.Field.{values_of}
use Rattle.frame_rows.specs.Row.{class_by}
use Rattle.frame_rows.specs.Sight.{IsLike, Side, seen_apart, sight_of}
use Rattle.frame_classes.specs.Classes.{IsFrame}

-- ---- their order

-- pairs of classes in their order: by the first, and within it by the second. The number of a class is below 2 ^ 26
abbrev pub pair_number : FrameClass × FrameClass → ℕ
pair_number pair = class_number pair.0 * 2 ^ 26 + class_number pair.1

-- three classes: by the first, then by the second and the third
abbrev pub triple_number : FrameClass × FrameClass × FrameClass → ℕ
triple_number triple = class_number triple.0 * 2 ^ 52 + pair_number (triple.1, triple.2)

-- ---- two configurations

-- the classes by the one and by the other, and a frame that has them and is seen otherwise
pub record IsDifference (e f : Entities) (port least : ℕ) (difference : (FrameClass × FrameClass) × List ℕ) : Type 0 where
  pub frame : IsFrame least difference.1
  pub before : class_of e port difference.1 ≡ difference.0.0
  pub after : class_of f port difference.1 ≡ difference.0.1
  pub differ : sight_of e port difference.1 ≡ sight_of f port difference.1 → ⊥

abbrev pub pairs_in : List ((FrameClass × FrameClass) × List ℕ) → List (FrameClass × FrameClass)
pairs_in differences = map (λ difference. difference.0) differences

-- these are the differences of two configurations at a port, in frames of at least so many bytes
pub record AreDifferences (e f : Entities) (port least : ℕ) (differences : List ((FrameClass × FrameClass) × List ℕ)) : Type 0 where
  -- the frame beside each listed pair has both classes, and is seen otherwise
  pub each : All (IsDifference e f port least) differences
  -- the classes of every frame that is seen otherwise are listed
  pub every : (bytes : List ℕ) → IsFrame least bytes → (sight_of e port bytes ≡ sight_of f port bytes → ⊥)
      → Contains (pairs_in differences) (class_of e port bytes, class_of f port bytes)
  -- once, and in order
  pub once : IsStrictlyIncreasing (map pair_number (pairs_in differences))

-- ---- two lists of rows

-- the classes by the one and by the other, and a frame that has them and is seen otherwise
pub record IsApartBy (one other : Side) (least : ℕ) (difference : (FrameClass × FrameClass) × List ℕ) : Type 0 where
  pub frame : IsFrame least difference.1
  pub before : class_by one.endings one.rows (values_of difference.1) ≡ Some difference.0.0
  pub after : class_by other.endings other.rows (values_of difference.1) ≡ Some difference.0.1
  pub apart : seen_apart true one other (values_of difference.1) ≡ true

-- these are the differences of two lists of rows, and what they stand with, in frames of at least so many bytes
pub record AreApartBy (one other : Side) (least : ℕ) (differences : List ((FrameClass × FrameClass) × List ℕ)) : Type 0 where
  -- the frame beside each listed pair has both classes, and is seen otherwise
  pub each : All (IsApartBy one other least) differences
  -- the classes of every frame that is seen otherwise are listed
  pub every : (bytes : List ℕ) (before after : FrameClass) → IsFrame least bytes → class_by one.endings one.rows (values_of bytes) ≡ Some before
      → class_by other.endings other.rows (values_of bytes) ≡ Some after → seen_apart true one other (values_of bytes) ≡ true
      → Contains (pairs_in differences) (before, after)
  -- once, and in order
  pub once : IsStrictlyIncreasing (map pair_number (pairs_in differences))

-- ---- one between two others

-- by the configuration between, e before and g after, a frame leaves with a GEM port or bytes with which it leaves by neither, or it is
-- dropped and is so by neither
pub record IsTorn (e f g : Entities) (port : ℕ) (bytes : List ℕ) : Type 0 where
  pub before : IsLike (sight_of f port bytes) (sight_of e port bytes) → ⊥
  pub after : IsLike (sight_of f port bytes) (sight_of g port bytes) → ⊥

-- the classes by the one before, the one here and the one after, and a frame that has them and is torn
pub record IsTear (e f g : Entities) (port least : ℕ) (tear : (FrameClass × FrameClass × FrameClass) × List ℕ) : Type 0 where
  pub frame : IsFrame least tear.1
  pub before : class_of e port tear.1 ≡ tear.0.0
  pub here : class_of f port tear.1 ≡ tear.0.1
  pub after : class_of g port tear.1 ≡ tear.0.2
  pub torn : IsTorn e f g port tear.1

abbrev pub triples_in : List ((FrameClass × FrameClass × FrameClass) × List ℕ) → List (FrameClass × FrameClass × FrameClass)
triples_in tears = map (λ tear. tear.0) tears

-- these are the tears of a configuration between two others at a port, in frames of at least so many bytes
pub record AreTorn (e f g : Entities) (port least : ℕ) (tears : List ((FrameClass × FrameClass × FrameClass) × List ℕ)) : Type 0 where
  -- the frame beside each three listed classes has them, and is torn
  pub each : All (IsTear e f g port least) tears
  -- the classes of every frame that is torn are listed
  pub every : (bytes : List ℕ) → IsFrame least bytes → IsTorn e f g port bytes
      → Contains (triples_in tears) (class_of e port bytes, class_of f port bytes, class_of g port bytes)
  -- once, and in order
  pub once : IsStrictlyIncreasing (map triple_number (triples_in tears))

-- these are those of its tears in which it uses this for the frame
pub record AreTornBy (e f g : Entities) (port least : ℕ) (used : Use) (tears : List ((FrameClass × FrameClass × FrameClass) × List ℕ)) : Type 0 where
  pub each : All (IsTear e f g port least) tears
  pub uses : All (λ tear. tear.0.1.used ≡ used) tears
  pub every : (bytes : List ℕ) → IsFrame least bytes → IsTorn e f g port bytes → (class_of f port bytes).used ≡ used
      → Contains (triples_in tears) (class_of e port bytes, class_of f port bytes, class_of g port bytes)
  pub once : IsStrictlyIncreasing (map triple_number (triples_in tears))

-- ---- a list of rows between two others

-- the rows between see frames with these values otherwise than the first and the last; of drops the reasons don't count
abbrev pub is_torn_by : Side → Side → Side → Values → Bool
is_torn_by before here after values = seen_apart false here before values && seen_apart false here after values

-- the classes by the first rows, by those between and by the last, and a frame that has them and is seen otherwise
pub record IsTornRow (first between last : Side) (least : ℕ) (tear : (FrameClass × FrameClass × FrameClass) × List ℕ) : Type 0 where
  pub frame : IsFrame least tear.1
  pub before : class_by first.endings first.rows (values_of tear.1) ≡ Some tear.0.0
  pub here : class_by between.endings between.rows (values_of tear.1) ≡ Some tear.0.1
  pub after : class_by last.endings last.rows (values_of tear.1) ≡ Some tear.0.2
  pub torn : is_torn_by first between last (values_of tear.1) ≡ true

-- these are those of their tears for which the rows between use this
pub record AreTornByRows (before here after : Side) (least : ℕ) (used : Use) (tears : List ((FrameClass × FrameClass × FrameClass) × List ℕ)) : Type 0 where
  pub each : All (IsTornRow before here after least) tears
  pub uses : All (λ tear. tear.0.1.used ≡ used) tears
  pub every : (bytes : List ℕ) (b h a : FrameClass) → IsFrame least bytes → class_by before.endings before.rows (values_of bytes) ≡ Some b
      → class_by here.endings here.rows (values_of bytes) ≡ Some h → class_by after.endings after.rows (values_of bytes) ≡ Some a → h.used ≡ used
      → is_torn_by before here after (values_of bytes) ≡ true → Contains (triples_in tears) (b, h, a)
  pub once : IsStrictlyIncreasing (map triple_number (triples_in tears))
