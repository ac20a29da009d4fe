-- Marks of the classes that were tried, by their places.
use Rattle.std.specs.Prelude.{◌≡◌, ◌<◌, ◌≤◌, ◌⊎◌, ℕ, Bool, true, List, Option, Some, None, length, map, slice_get, slice_index_or, slice_set}
use Rattle.std.specs.List.Sorted.{IsStrictlyIncreasing}
use Rattle.frame_rows.specs.declared.class.FrameClass.{FrameClass}
use Rattle.frame_rows.specs.Class.{class_number}
use Rattle.frame_classes.specs.declared.example.ClassExample.{ClassExample}

-- classes stand in their order
abbrev pub Ascend : List ClassExample → Type 0
Ascend classes = IsStrictlyIncreasing (map (λ (e : ClassExample). class_number e.class) classes)

-- the class at a place is this one
abbrev pub HasClass : FrameClass → Option ClassExample → Type 0
HasClass class None = ⊥
HasClass class (Some example) = example.class ≡ class

-- the mark at a place is set if the class there is this one, and the others stay
pub record AreMarked (classes : List ClassExample) (place : ℕ) (class : FrameClass) (before after : List Bool) : Type 0 where
  pub there : HasClass class (slice_get classes place) → after ≡ slice_set before place true
  pub elsewhere : ¬ (HasClass class (slice_get classes place)) → after ≡ before

-- the classes before a place have smaller numbers than a class, and those from there on don't
pub record IsAmong (classes : List ClassExample) (class : FrameClass) (place : ℕ) : Type 0 where
  pub before : (k : ℕ) (d : ClassExample) → k < place → class_number (slice_index_or classes k d).class < class_number class
  pub behind : (d : ClassExample) → place < length classes → class_number class ≤ class_number (slice_index_or classes place d).class

-- the place of a class, if it stands among some: it stands there, or those before have smaller numbers and those from there on don't
abbrev pub IsPlaceFor : List ClassExample → FrameClass → ℕ → Type 0
IsPlaceFor classes class place = HasClass class (slice_get classes place) ⊎ IsAmong classes class place
