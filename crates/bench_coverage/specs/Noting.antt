-- A judged frame more, on the way of a passage.
use Rattle.std.specs.Prelude.{◌≡◌, ◌≤◌, ◌<◌, ◌⊎◌, ◌-◌, ◌++◌, ◌∷◌, ℕ, false, List, [], Contains, Some, length, replicate, slice_get, take}
use Rattle.omci_msg.specs.declared.request.Request.{Request}
use Rattle.mib_state.specs.Entities.{Entities}
use Rattle.frame_classes.specs.Classes.{AreClasses}
use Rattle.frame_rows.specs.declared.class.FrameClass.{FrameClass}
use Rattle.frame_rows.specs.Class.{class_of}
use Rattle.bench_judge.specs.declared.course.JudgedFrame.{JudgedFrame}
use Rattle.bench_coverage.specs.Coverage.{IsCoverage, examples_of}
use Rattle.bench_coverage.specs.Marks.{Ascend}
use Rattle.bench_coverage.specs.Passage.{IsReady, entities_in}
use Rattle.bench_coverage.specs.Stretches.{entities_by}
use Rattle.bench_coverage.specs.declared.passage.Passage.{Passage}
use Rattle.bench_coverage.specs.declared.stretch.Stretch.{Stretch}

-- the classes of a stretch stand in order, and there is a mark for each
pub record IsWhole (s : Stretch) : Type 0 where
  pub ascend : Ascend s.classes.items
  pub marks : length s.tried.items ≡ length s.classes.items

-- a frame comes before another, or is of the same port and version: by the port, and within it by the version
abbrev pub IsNotBehind : JudgedFrame → JudgedFrame → Type 0
IsNotBehind one other = (one.port < other.port) ⊎ ((one.port ≡ other.port) × (one.version ≤ other.version))

-- a frame of this class comes next, behind others: the passage is at its version
pub record IsNext (passage : Passage) (class : FrameClass) (frames : List JudgedFrame) (frame : JudgedFrame) : Type 0 where
  pub port : frame.port ≡ passage.port
  pub version : frame.version ≡ passage.version
  pub has_class : class_of (entities_in passage passage.version) passage.port frame.frame ≡ class
  pub last : (j : JudgedFrame) → Contains frames j → IsNotBehind j frame

-- a stretch is that of a passage
abbrev pub IsOf : Passage → Stretch → Type 0
IsOf passage s = (s.port ≡ passage.port) × (s.version ≡ passage.first)

-- it is, with its classes, of which nothing is tried
pub record IsFresh (passage : Passage) (s : Stretch) : Type 0 where
  pub port : s.port ≡ passage.port
  pub version : s.version ≡ passage.first
  pub classes : AreClasses (entities_in passage passage.first) passage.port passage.least (examples_of s.classes.items)
  pub tried : s.tried.items ≡ replicate (length s.classes.items) false

-- the last stretch is that of a passage: it was, or a fresh one came behind it
abbrev pub IsTurned : Passage → List Stretch → Stretch → List Stretch → Stretch → Type 0
IsTurned passage done last more next =
    (IsOf passage last × (more ≡ done) × (next ≡ last))
    ⊎ ((IsOf passage last → ⊥) × (more ≡ done ++ last ∷ []) × IsFresh passage next)

-- the coverage of some frames so far: of all stretches but the last, and of that
abbrev pub IsSoFar : (ℕ → Entities) → ℕ → List JudgedFrame → List Stretch → Stretch → Type 0
IsSoFar entities least frames done last = IsCoverage entities least frames (done ++ last ∷ [])

-- a passage is at the last of the first frames, so many of some, whose coverage is known
pub record IsGoing (requests : List Request) (base least : ℕ) (frames : List JudgedFrame) (passage : Passage) (place : ℕ) (done : List Stretch) (last : Stretch) : Type 0 where
  pub ready : IsReady passage
  pub requests_same : passage.requests.now ≡ requests
  pub base_same : passage.base ≡ base
  pub least_same : passage.least ≡ least
  pub port : (x : JudgedFrame) → slice_get frames (place - 1) ≡ Some x → passage.port ≡ x.port
  pub version : (x : JudgedFrame) → slice_get frames (place - 1) ≡ Some x → passage.version ≡ x.version
  pub whole : IsWhole last
  pub so_far : IsSoFar (entities_by requests base) least (take place frames) done last
