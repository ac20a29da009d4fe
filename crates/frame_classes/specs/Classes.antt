-- The classes of a port: each that some frame has, once, with a frame that has it. A frame is any list of bytes.
use Rattle.std.specs.Prelude.{◌≡◌, ◌<◌, ◌≤◌, ◌^◌, ℕ, List, All, Contains, length, map}
use Rattle.std.specs.List.Sorted.{IsStrictlyIncreasing}
use Rattle.mib_state.specs.Entities.{Entities}
use Rattle.frame_rows.specs.declared.class.FrameClass.{FrameClass}
use Rattle.frame_rows.specs.Class.{class_number, class_of}

-- a frame of at least so many bytes
pub record IsFrame (least : ℕ) (bytes : List ℕ) : Type 0 where
  pub bytes_fit : All (λ b. b < 2 ^ 8) bytes
  pub long : least ≤ length bytes

-- a class, and a frame that has it
pub record IsExample (e : Entities) (port least : ℕ) (example : FrameClass × List ℕ) : Type 0 where
  pub frame : IsFrame least example.1
  pub has_class : class_of e port example.1 ≡ example.0

abbrev pub classes_in : List (FrameClass × List ℕ) → List FrameClass
classes_in examples = map (λ example. example.0) examples

-- these are the classes of the frames of at least so many bytes that come in at a port
pub record AreClasses (e : Entities) (port least : ℕ) (examples : List (FrameClass × List ℕ)) : Type 0 where
  -- each listed class is had by the frame beside it
  pub each : All (IsExample e port least) examples
  -- the class of every frame is listed
  pub every : (bytes : List ℕ) → IsFrame least bytes → Contains (classes_in examples) (class_of e port bytes)
  -- once, and in order
  pub once : IsStrictlyIncreasing (map class_number (classes_in examples))
