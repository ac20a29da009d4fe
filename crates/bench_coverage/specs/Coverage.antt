-- Coverage of an explained history: which classes of frames were tried by each stretch of versions at each port, and which not.
use Rattle.std.specs.Prelude.{◌≡◌, ◌<◌, ◌⊎◌, ℕ, false, List, Some, Contains, Decides, length, map, slice_get, slice_index_or}
use Rattle.mib_state.specs.Entities.{Entities}
use Rattle.frame_rows.specs.declared.class.FrameClass.{FrameClass}
use Rattle.frame_rows.specs.Class.{class_of}
use Rattle.frame_classes.specs.Classes.{AreClasses}
use Rattle.frame_classes.specs.declared.example.ClassExample.{ClassExample}
use Rattle.bench_judge.specs.declared.course.JudgedFrame.{JudgedFrame}
use Rattle.bench_coverage.specs.Stretches.{IsInStretch}
use Rattle.bench_coverage.specs.declared.stretch.Stretch.{Stretch}

-- a judged frame counts for the stretch of a port that begins with a version: it was sent into the port, and its version is one of the stretch
pub record CountsFor (entities : ℕ → Entities) (least port first : ℕ) (j : JudgedFrame) : Type 0 where
  pub sent : j.port ≡ port
  pub inside : IsInStretch entities port least first j.version

-- the class of a judged frame by its version; of a front the class that the front gives
abbrev pub class_by_version : (ℕ → Entities) → JudgedFrame → FrameClass
class_by_version entities j = class_of (entities j.version) j.port j.frame

-- some frame that counts for a stretch has a class
pub record IsTried (entities : ℕ → Entities) (least port first : ℕ) (frames : List JudgedFrame) (class : FrameClass) : Type 0 where
  pub frame : JudgedFrame
  pub judged : Contains frames frame
  pub counts : CountsFor entities least port first frame
  pub has_class : class_by_version entities frame ≡ class

abbrev pub examples_of : List ClassExample → List (FrameClass × List ℕ)
examples_of classes = map (λ example. (example.class, example.frame.items)) classes

-- a stretch that some frame counts for, with its classes and which of them such a frame has
pub record IsCovered (entities : ℕ → Entities) (least : ℕ) (frames : List JudgedFrame) (s : Stretch) : Type 0 where
  pub frame : JudgedFrame
  pub judged : Contains frames frame
  pub counts : CountsFor entities least s.port s.version frame
  pub classes : AreClasses (entities s.version) s.port least (examples_of s.classes.items)
  pub marks : length s.tried.items ≡ length s.classes.items
  pub tried : (k : ℕ) (example : ClassExample) → slice_get s.classes.items k ≡ Some example
      → Decides (slice_index_or s.tried.items k false) (IsTried entities least s.port s.version frames example.class)

-- stretches in their order: by the port, and within it by the first version
abbrev pub IsBefore : Stretch → Stretch → Type 0
IsBefore one other = (one.port < other.port) ⊎ ((one.port ≡ other.port) × (one.version < other.version))

-- a stretch is among some, by its port and its first version
pub record IsListed (stretches : List Stretch) (port first : ℕ) : Type 0 where
  pub place : ℕ
  pub stretch : Stretch
  pub at : slice_get stretches place ≡ Some stretch
  pub port_same : stretch.port ≡ port
  pub first_same : stretch.version ≡ first

-- the coverage of judged frames, by the entities of each version
pub record IsCoverage (entities : ℕ → Entities) (least : ℕ) (frames : List JudgedFrame) (stretches : List Stretch) : Type 0 where
  -- each listed stretch has a frame that counts for it, all its classes, and says which were tried
  pub each : (k : ℕ) (s : Stretch) → slice_get stretches k ≡ Some s → IsCovered entities least frames s
  -- each stretch that a judged frame counts for is listed
  pub every : (j : JudgedFrame) (first : ℕ) → Contains frames j → CountsFor entities least j.port first j → IsListed stretches j.port first
  -- once, and in order
  pub ascend : (i k : ℕ) (one other : Stretch) → slice_get stretches i ≡ Some one → slice_get stretches k ≡ Some other → i < k → IsBefore one other
