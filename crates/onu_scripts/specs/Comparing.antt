-- What is shown of two configurations, and of a change, in a room.
use Rattle.std.specs.Prelude.{◌≡◌, ◌<◌, ◌≤◌, ◌⊎◌, ⊤, ℕ, ℤ, pos, Bool, true, false, List, Option, Some, None}
use Rattle.mib_state.specs.Entities.{Entities}
use Rattle.script_trace.specs.Script.{after_script, first_bad}
use Rattle.script_trace.specs.declared.fault.ScriptFault.{ScriptFault}
use Rattle.script_trace.specs.declared.fault.ScriptFault.TheVariants.{BadLine, NoMemory}
use Rattle.text_every_frame.specs.Same.{IsSaid}
use Rattle.onu_cell.specs.Numbers.{backward, bad_after, bad_line, no_memory}
use Rattle.onu_scripts.specs.Making.{MakesInto}

-- the entities that a trace leads to behind a line
abbrev pub entities_behind : ℕ → List ℕ → Entities
entities_behind line trace = (after_script (Some line) trace).state.entities

-- what a fault answers, of a trace whose bad lines have this number, and the line that it names
abbrev pub IsRefusal : ℤ → ScriptFault → ℤ → ℕ → ℕ → Type 0
IsRefusal bad (BadLine first) result written line = (result ≡ bad) × (written ≡ 0) × (line ≡ first)
IsRefusal bad NoMemory result written line = (result ≡ no_memory) × (written ≡ 0) × (line ≡ 0)

-- what is found, by whether that is nothing, stands in a room: its number and how many bytes it is said to have
pub record FindsInto (IsFound : Bool → Type 0) (room after : List ℕ) (result : ℤ) (written : ℕ) : Type 0 where
  pub nothing : result ≡ pos 0 → IsFound true
  pub something : result ≡ pos 1 → IsFound false
  pub made : MakesInto room after result written

-- a line of a trace is bad, this one first, and nothing is shown
pub record HasBadLine (bad : Option ℕ) (called : ℤ) (room after : List ℕ) (result : ℤ) (written line : ℕ) : Type 0 where
  pub number : result ≡ called
  pub names : bad ≡ Some line
  pub says : written ≡ 0
  pub kept : after ≡ room

-- no line is bad that is read, unless a request for memory was refused, and what is found is shown
pub record Finds (AreGood : Type 0) (IsFound : Bool → Type 0) (room after : List ℕ) (result : ℤ) (written line : ℕ) : Type 0 where
  pub good : AreGood ⊎ (result ≡ no_memory)
  pub names : line ≡ 0
  pub found : FindsInto IsFound room after result written

-- what is found of a trace, whose first bad line this is, and whose bad lines have this number
abbrev pub ReadsInto : ℤ → Option ℕ → (Bool → Type 0) → List ℕ → List ℕ → ℤ → ℕ → ℕ → Type 0
ReadsInto number bad IsFound room after result written line =
    HasBadLine bad number room after result written line ⊎ Finds (bad ≡ None) IsFound room after result written line

-- ---- two traces

-- what is found of two traces, whose first bad lines these are
abbrev pub ComparesInto : Option ℕ → Option ℕ → (Bool → Type 0) → List ℕ → List ℕ → ℤ → ℕ → ℕ → Type 0
ComparesInto bad other IsFound room after result written line =
    HasBadLine bad bad_line room after result written line
    ⊎ ((bad ≡ None) × HasBadLine other bad_after room after result written line)
    ⊎ Finds ((bad ≡ None) × (other ≡ None)) IsFound room after result written line

-- what is treated differently by two configurations, which are those of a trace behind a line and of another behind another
abbrev pub DifferencesInto : List ℕ → ℕ → List ℕ → ℕ → Option ℕ → ℕ → List ℕ → List ℕ → ℤ → ℕ → ℕ → Type 0
DifferencesInto before from next until port least room after result written line =
    ComparesInto (first_bad (Some from) before) (first_bad (Some until) next)
    (IsSaid (entities_behind from before) (entities_behind until next) port least) room after result written line

-- ---- one trace

-- a change is to begin behind the line where it ends: nothing is read or written
pub record IsBackward (from until : ℕ) (room after : List ℕ) (result : ℤ) (written_before written line_before line : ℕ) : Type 0 where
  pub order : until < from
  pub number : result ≡ backward
  pub says : written ≡ written_before
  pub names : line ≡ line_before
  pub kept : after ≡ room

-- what is found of a change from a line of a trace to another
abbrev pub ChangesInto : List ℕ → ℕ → ℕ → (Bool → Type 0) → List ℕ → List ℕ → ℤ → ℕ → ℕ → ℕ → ℕ → Type 0
ChangesInto trace from until IsFound room after result written_before written line_before line =
    IsBackward from until room after result written_before written line_before line
    ⊎ ((from ≤ until) × ReadsInto bad_line (first_bad (Some until) trace) IsFound room after result written line)

-- what is treated differently at both
abbrev pub MomentsInto : List ℕ → ℕ → ℕ → Option ℕ → ℕ → List ℕ → List ℕ → ℤ → ℕ → ℕ → ℕ → ℕ → Type 0
MomentsInto trace from until port least room after result written_before written line_before line =
    ChangesInto trace from until (IsSaid (entities_behind from trace) (entities_behind until trace) port least) room after result written_before written
    line_before line

-- which moments between are torn: whether there are some is tested, and nothing of it is said here
abbrev pub TearsInto : List ℕ → ℕ → ℕ → List ℕ → List ℕ → ℤ → ℕ → ℕ → ℕ → ℕ → Type 0
TearsInto trace from until room after result written_before written line_before line =
    ChangesInto trace from until (λ said. ⊤) room after result written_before written line_before line
