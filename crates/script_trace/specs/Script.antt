-- What the messages of a script leave, and what was wrong with them.
use Rattle.std.specs.Prelude.{◌≡◌, ℕ, ◌+◌, ◌&&◌, ⊤, Bool, true, false, not, List, [], ◌∷◌, ◌++◌, Option, Some, None, Result, Ok, Err, if◌then◌else◌, nat_lt, take}
use Rattle.omci_msg.specs.Message.{request_of}
use Rattle.omci_msg.specs.declared.Request.{Request}
use Rattle.omci_msg.specs.declared.fault.MsgFault.{MsgFault}
use Rattle.mib_state.specs.After.{is_accepted, may_change}
use Rattle.mib_state.specs.Entities.{State, nothing, unlatched}
use Rattle.mib_state.specs.Step.{step}
use Rattle.script_lines.specs.Line.{Asked, asked_by}
use Rattle.script_lines.specs.Text.{lines_of}
use Rattle.script_trace.specs.Trace.{may_stand, message_in}
use Rattle.script_trace.specs.declared.line.FrameLines.TheVariants.{Passed}
use Rattle.script_trace.specs.declared.applied.Accepted.{Accepted}
use Rattle.script_trace.specs.declared.applied.Applied.{Applied}
use Rattle.script_trace.specs.declared.applied.Faulty.{Faulty}
use Rattle.script_trace.specs.declared.applied.Refused.{Refused}
use Rattle.script_trace.specs.declared.fault.ScriptFault.{ScriptFault}
use Rattle.script_trace.specs.declared.fault.ScriptFault.TheVariants.{BadLine, NoMemory}

-- the entities so far; the requests that were accepted; the messages that have a fault; and the requests that are refused, with their replies;
-- each with the number, from 1, of its line
pub record Told : Type 0 where
  pub state : State
  pub accepted : List Accepted
  pub faulty : List Faulty
  pub refused : List Refused

-- what is left when messages were carried out
abbrev pub told_by : Applied → Told
told_by applied = record { state = applied.mib; accepted = applied.accepted.items; faulty = applied.faulty.items; refused = applied.refused.items }

-- a request is refused where it is to change the entities and isn't accepted
abbrev pub is_refused : State → Request → Bool
is_refused s q = not (is_accepted s.entities q) && may_change q.action

-- ---- line by line

-- a request on a line is accepted
abbrev pub accepted_at : ℕ → Request → Accepted
accepted_at n q = record { line = n; request = q }

-- one on a line is refused, and this is its reply
abbrev pub refused_at : ℕ → State → Request → Refused
refused_at n s q = record { line = n; request = q; reply = (step s q).0 }

abbrev pub after_request : ℕ → Request → Told → Told
after_request n q told = record {
  state = (step told.state q).1;
  accepted = told.accepted ++ (if is_accepted told.state.entities q then accepted_at n q ∷ [] else []);
  faulty = told.faulty;
  refused = told.refused ++ (if is_refused told.state q then refused_at n told.state q ∷ [] else []);
}

-- a message on a line has a fault
abbrev pub faulty_at : ℕ → MsgFault → Faulty
faulty_at n fault = record { line = n; fault = fault }

abbrev pub after_message : ℕ → Result Request MsgFault → Told → Told
after_message n (Ok q) told = after_request n q told
after_message n (Err fault) told = record told { faulty = told.faulty ++ faulty_at n fault ∷ [] }

-- a line holds these bytes of a message, or none
abbrev pub after_bytes : ℕ → Option (List ℕ) → Told → Told
after_bytes n None told = told
after_bytes n (Some bytes) told = after_message n (request_of bytes) told

abbrev pub after_line : ℕ → Option Asked → Told → Told
after_line n asked told = after_bytes n (message_in asked) told

-- after lines, the first of which has the number behind this one
abbrev pub after_lines : ℕ → List (List ℕ) → Told → Told
after_lines n [] told = told
after_lines n (line ∷ rest) told = after_lines (n + 1) rest (after_line (n + 1) (asked_by line) told)

-- ---- a script

-- the lines that are read: those up to a number, or all
abbrev pub read_until : Option ℕ → List (List ℕ) → List (List ℕ)
read_until None lines = lines
read_until (Some last) lines = take last lines

-- whether one more is read behind so many
abbrev pub goes_on : ℕ → Option ℕ → Bool
goes_on n None = true
goes_on n (Some last) = nat_lt n last

-- no instance, and nothing wrong
abbrev pub nothing_told : Told
nothing_told = record { state = unlatched nothing; accepted = []; faulty = []; refused = [] }

-- what the messages of a script leave, up to a line
abbrev pub after_script : Option ℕ → List ℕ → Told
after_script until script = after_lines 0 (read_until until (lines_of script)) nothing_told

-- the number of the first bad line among some, the first of which has the number behind this one
abbrev pub bad_among : ℕ → List (List ℕ) → Option ℕ
bad_among n [] = None
bad_among n (line ∷ rest) = if may_stand Passed (asked_by line) then bad_among (n + 1) rest else Some (n + 1)

-- the number, from 1, of the first bad line that is read
abbrev pub first_bad : Option ℕ → List ℕ → Option ℕ
first_bad until script = bad_among 0 (read_until until (lines_of script))

-- a line isn't bad
abbrev pub IsGood : Option Asked → Type 0
IsGood asked = may_stand Passed asked ≡ true

-- why a line isn't carried out: it is bad, or memory is wanting
abbrev pub IsBadLine : ℕ → Option Asked → ScriptFault → Type 0
IsBadLine n asked (BadLine m) = (m ≡ n) × (may_stand Passed asked ≡ false)
IsBadLine n asked NoMemory = ⊤

-- why a script isn't carried out: its first bad line, or want of memory
abbrev pub IsWhyNotApplied : Option ℕ → List ℕ → ScriptFault → Type 0
IsWhyNotApplied until script (BadLine n) = first_bad until script ≡ Some n
IsWhyNotApplied until script NoMemory = ⊤
