-- What the lines of a trace ask.
use Rattle.std.specs.Prelude.{◌≡◌, ℕ, suc, Bool, true, false, not, List, [], ◌∷◌, Option, Some, None, Result, Ok, Err, option_map, position}
use Rattle.std.specs.List.{flat_map}
use Rattle.omci_msg.specs.Message.{request_of}
use Rattle.omci_msg.specs.declared.Request.{Request}
use Rattle.omci_msg.specs.declared.fault.MsgFault.{MsgFault}
use Rattle.script_lines.specs.Line.{Asked, Message, Frame, Nothing, asked_by}
use Rattle.script_lines.specs.Text.{lines_of}
use Rattle.script_trace.specs.declared.line.FrameLines.{FrameLines}
use Rattle.script_trace.specs.declared.line.FrameLines.TheVariants.{Passed, Bad}
use Rattle.script_trace.specs.declared.fault.ScriptFault.{ScriptFault}
use Rattle.script_trace.specs.declared.fault.ScriptFault.TheVariants.{BadLine, NoMemory}

-- whether a frame may stand in a trace: where frames are passed over
abbrev pub frame_may_stand : FrameLines → Bool
frame_may_stand Passed = true
frame_may_stand Bad = false

-- whether a line may stand in a trace: a message, or nothing, or a frame that is passed over
abbrev pub may_stand : FrameLines → Option Asked → Bool
may_stand frames None = false
may_stand frames (Some (Message bytes)) = true
may_stand frames (Some (Frame port bytes)) = frame_may_stand frames
may_stand frames (Some Nothing) = true

-- the bytes of the message that a line is
abbrev pub message_in : Option Asked → Option (List ℕ)
message_in None = None
message_in (Some (Message bytes)) = Some bytes
message_in (Some (Frame port bytes)) = None
message_in (Some Nothing) = None

-- the number, from 1, of the first line that may not stand where frames are bad
abbrev pub first_bad : List ℕ → Option ℕ
first_bad text = option_map suc (position (λ line. not (may_stand Bad (asked_by line))) (lines_of text))

-- the request of a message without a fault
abbrev pub request_read : Result Request MsgFault → List Request
request_read (Ok q) = q ∷ []
request_read (Err fault) = []

-- the request of a message, if there is one, without a fault
abbrev pub request_told : Option (List ℕ) → List Request
request_told None = []
request_told (Some bytes) = request_read (request_of bytes)

-- the request of a line that is a message without a fault
abbrev pub request_in : Option Asked → List Request
request_in asked = request_told (message_in asked)

-- the requests of a text, in order
abbrev pub requests_of : List ℕ → List Request
requests_of text = flat_map (λ line. request_in (asked_by line)) (lines_of text)

-- why a text isn't read as a trace: its first line that may not stand; or none, where memory is wanting
abbrev pub IsWhyUnread : List ℕ → ScriptFault → Type 0
IsWhyUnread text (BadLine n) = first_bad text ≡ Some n
IsWhyUnread text NoMemory = first_bad text ≡ None
