-- The answers to a script.
use Rattle.std.specs.Prelude.{ℕ, suc, List, [], ◌∷◌, ◌++◌, Option, Some, None, option_map, Result, Ok, Err, if◌then◌else◌, map, codes}
use Rattle.std.specs.Fmt.{decimal}
use Rattle.hex.specs.Hex.{encode_lower}
use Rattle.omci_msg.specs.Fault.{number_of_fault}
use Rattle.omci_msg.specs.Message.{request_of, reply_spelling}
use Rattle.omci_msg.specs.declared.fault.MsgFault.{MsgFault}
use Rattle.omci_msg.specs.declared.request.Request.{Request}
use Rattle.omci_msg.specs.declared.reply.Reply.{Reply}
use Rattle.frame_meaning.specs.Meaning.{meaning}
use Rattle.frame_meaning.specs.Reason.{number_of_reason}
use Rattle.frame_meaning.specs.declared.reason.Reason.{Reason}
use Rattle.frame_meaning.specs.declared.verdict.Verdict.{Verdict}
use Rattle.frame_meaning.specs.declared.verdict.Verdict.TheVariants.{Forward, Drop}
use Rattle.tag_view.specs.Frame.{Reading, spelled}
use Rattle.mib_upload.specs.Upload.{DeskState, answered, start}
use Rattle.script_lines.specs.Line.{Asked, asked_by}
use Rattle.script_lines.specs.Line.Asked.{Message, Frame, Nothing}
use Rattle.script_lines.specs.Text.{lines_of}

-- the line of a reply
abbrev pub reply_line : Reply → List ℕ
reply_line reply = codes "r " ++ encode_lower (reply_spelling reply) ++ 10 ∷ []

-- the line where no answer was wanted
abbrev pub unanswered_line : List ℕ
unanswered_line = 45 ∷ 10 ∷ []

-- the line of a message with a fault
abbrev pub fault_line : MsgFault → List ℕ
fault_line fault = codes "m " ++ decimal (number_of_fault fault) ++ 10 ∷ []

-- the line of a request that was carried out
abbrev pub request_line : Request → Reply → List ℕ
request_line request reply = if request.wants_answer then reply_line reply else unanswered_line

-- the line of a frame that leaves by a GEM port
abbrev pub forwarded_line : ℕ → Reading → List ℕ
forwarded_line gem frame = codes "g " ++ decimal gem ++ 32 ∷ [] ++ encode_lower (spelled frame.addresses frame.tags frame.rest) ++ 10 ∷ []

-- the line of a frame that is dropped
abbrev pub dropped_line : Reason → List ℕ
dropped_line reason = codes "d " ++ decimal (number_of_reason reason) ++ 10 ∷ []

abbrev pub verdict_line : Verdict → List ℕ
verdict_line (Forward gem frame) = forwarded_line gem frame
verdict_line (Drop reason) = dropped_line reason

-- the answer to a message in a given state, and the state that it leaves: one with a fault leaves it
abbrev pub message_answer : DeskState → Result Request MsgFault → List ℕ × DeskState
message_answer s (Ok request) = let done = answered s request in (request_line request done.0, done.1)
message_answer s (Err fault) = (fault_line fault, s)

-- the same of a line that isn't bad
abbrev pub answer : DeskState → Asked → List ℕ × DeskState
answer s (Message bytes) = message_answer s (request_of bytes)
answer s (Frame port bytes) = (verdict_line (meaning s.mib.entities port bytes), s)
answer s Nothing = ([], s)

-- the same of any line: a bad one has no answer
abbrev pub line_answer : DeskState → Option Asked → List ℕ × DeskState
line_answer s None = ([], s)
line_answer s (Some asked) = answer s asked

-- the answers to lines in turn, up to the first bad one
abbrev pub answers_from : DeskState → List (Option Asked) → List ℕ
answers_from s [] = []
answers_from s (None ∷ lines) = []
answers_from s (Some asked ∷ lines) = let done = answer s asked in done.0 ++ answers_from done.1 lines

-- the state after them
abbrev pub state_from : DeskState → List (Option Asked) → DeskState
state_from s [] = s
state_from s (None ∷ lines) = s
state_from s (Some asked ∷ lines) = state_from (answer s asked).1 lines

-- how many lines stand before the first bad one, if there is one
abbrev pub before_bad : List (Option Asked) → Option ℕ
before_bad [] = None
before_bad (None ∷ lines) = Some 0
before_bad (Some asked ∷ lines) = option_map suc (before_bad lines)

-- what the lines of a text ask for
abbrev pub script_of : List ℕ → List (Option Asked)
script_of text = map asked_by (lines_of text)

-- the answers to a text, up to its first bad line
abbrev pub answers : List ℕ → List ℕ
answers text = answers_from start (script_of text)
