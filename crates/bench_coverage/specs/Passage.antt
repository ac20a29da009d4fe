-- The way through the versions at one port.
use Rattle.std.specs.Prelude.{◌≡◌, ℕ, ◌+◌, ◌*◌, ◌^◌, List}
use Rattle.omci_msg.specs.declared.request.Request.{Request}
use Rattle.mib_state.specs.Entities.{Entities}
use Rattle.frame_meaning.specs.Meaning.{table_at}
use Rattle.frame_rows.specs.Rows.{Mean}
use Rattle.bench_judge.specs.declared.course.JudgedFrame.{JudgedFrame}
use Rattle.bench_coverage.specs.Known.{AreKnown}
use Rattle.bench_coverage.specs.Stretches.{IsInStretch, entities_by}
use Rattle.bench_coverage.specs.Uses.{AreUsesAt}
use Rattle.bench_coverage.specs.declared.passage.Passage.{Passage}

-- the entities by each version of a passage
abbrev pub entities_in : Passage → ℕ → Entities
entities_in passage = entities_by passage.requests.now passage.base

-- its version is one of the stretch that begins with its first, and both states are those of its version
pub record IsPassage (passage : Passage) : Type 0 where
  pub inside : IsInStretch (entities_in passage) passage.port passage.least passage.first passage.version
  pub before : passage.states.before.entities ≡ entities_in passage passage.version
  pub here : passage.states.here ≡ entities_in passage passage.version

-- what is kept for its frames is of its version, too
pub record IsReady (passage : Passage) : Type 0 where
  pub passes : IsPassage passage
  pub uses : AreUsesAt (table_at (entities_in passage passage.version) passage.port) passage.uses
  pub mean : Mean (entities_in passage passage.version) passage.port passage.rows.endings passage.rows.rows.items
  pub known : AreKnown (entities_in passage passage.version) passage.port passage.known

-- it is at a version of a port, and ready
pub record IsAt (requests : List Request) (base port least version : ℕ) (passage : Passage) : Type 0 where
  pub ready : IsReady passage
  pub requests_same : passage.requests.now ≡ requests
  pub base_same : passage.base ≡ base
  pub port_same : passage.port ≡ port
  pub least_same : passage.least ≡ least
  pub version_same : passage.version ≡ version

-- it goes on by the same requests, for frames of as many bytes
pub record GoesOn (passage next : Passage) : Type 0 where
  pub requests : next.requests.now ≡ passage.requests.now
  pub base : next.base ≡ passage.base
  pub least : next.least ≡ passage.least

-- judged frames in the order in which passages meet them: by the port, and within it by the version
abbrev pub frame_number : JudgedFrame → ℕ
frame_number j = j.port * 2 ^ 64 + j.version
