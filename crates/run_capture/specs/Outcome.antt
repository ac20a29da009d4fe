-- What a run leaves, by how it ends.
use Rattle.std.specs.Prelude.{◌≡◌, ℕ, if◌then◌else◌, List, Option, Some, None, Result, Ok, Err, length, map}
use Rattle.std.specs.Io.KnownBytes.{Appends, Keeps}
use Rattle.capture.specs.Records.{capture_of}
use Rattle.capture.specs.declared.fault.CaptureFault.{CaptureFault}
use Rattle.omci_msg.specs.declared.Request.{Request}
use Rattle.run_lanes.specs.Run.{AreAdmissible, SomeRunPasses, batches_in}
use Rattle.script_trace.specs.Trace.{first_bad, requests_of}
use Rattle.run_settings.specs.Settings.{can_run}
use Rattle.run_settings.specs.declared.settings.RunSettings.{RunSettings}
use Rattle.mib_state.specs.After.{accepted}
use Rattle.text_writing.specs.Written.{AppendsPart}
use Rattle.run_capture.specs.Lines.{run_lines}
use Rattle.run_capture.specs.declared.source.FrameSource.{FrameSource}
use Rattle.run_capture.specs.declared.source.FrameSource.TheVariants.{Whole, InPieces, Listed, Unlisted}
use Rattle.run_capture.specs.declared.fault.RunFault.{RunFault}
use Rattle.run_capture.specs.declared.fault.RunFault.TheVariants.{Settings, BadTrace, Capture, Unlisted, NoMemory, Refused, CountFull, Write}

-- ---- what is wrong with the input

-- the fault of a trace whose first bad line is this, or else that of the frames
abbrev pub trace_fault : Option ℕ → Option RunFault → Option RunFault
trace_fault (Some n) frames = Some (BadTrace n)
trace_fault None frames = frames

-- the fault of what a capture holds
abbrev pub capture_fault : Result (List (List ℕ)) CaptureFault → Option RunFault
capture_fault (Err fault) = Some (Capture fault)
capture_fault (Ok frames) = None

-- the first fault of what a run of a file is given
abbrev pub input_fault : List ℕ → List ℕ → RunSettings → Option RunFault
input_fault trace file s = if can_run s then trace_fault (first_bad trace) (capture_fault (capture_of file)) else Some Settings

-- the fault of frames as they are held: that of their capture
abbrev pub frames_fault : FrameSource → Option RunFault
frames_fault (Whole file) = capture_fault (capture_of file.now)
frames_fault (InPieces pieces) = capture_fault (capture_of pieces.now)
frames_fault (Listed frames) = None
frames_fault Unlisted = Some Unlisted

-- the first fault of what a run of frames, as they are held, is given
abbrev pub held_fault : List ℕ → FrameSource → RunSettings → Option RunFault
held_fault trace frames s = if can_run s then trace_fault (first_bad trace) (frames_fault frames) else Some Settings

-- ---- the output

-- this is written by a run of these frames, with these requests accepted: the lines of some versions that its batches may have
pub record IsOutputOver (requests : List Request) (frames : List (List ℕ)) (s : RunSettings) (out : List ℕ) : Type 0 where
  pub versions : List ℕ
  pub many : length versions ≡ batches_in s.batch (length frames)
  pub admissible : AreAdmissible (length requests) s.lanes s.after versions
  pub lines : out ≡ run_lines requests s frames versions

-- this is written by a run of the file's frames, with these requests accepted
pub record IsOutput (requests : List Request) (file : List ℕ) (s : RunSettings) (out : List ℕ) : Type 0 where
  pub frames : List (List ℕ)
  pub captured : capture_of file ≡ Ok frames
  pub over : IsOutputOver requests frames s out

-- a sum of the verdicts on the file's frames passes 64 bits, by versions that its batches may have with these requests accepted
pub record CountsPass (requests : List Request) (file : List ℕ) (s : RunSettings) : Type 0 where
  pub frames : List (List ℕ)
  pub captured : capture_of file ≡ Ok frames
  pub passes : SomeRunPasses requests s frames

-- the same of frames as they are held
abbrev pub IsOutputOf : List Request → FrameSource → RunSettings → List ℕ → Type 0
IsOutputOf requests (Whole file) s out = IsOutput requests file.now s out
IsOutputOf requests (InPieces pieces) s out = IsOutput requests pieces.now s out
IsOutputOf requests (Listed frames) s out = IsOutputOver requests (map (λ frame. frame.now) frames.now) s out
IsOutputOf requests Unlisted s out = ⊥

abbrev pub SumsPass : List Request → FrameSource → RunSettings → Type 0
SumsPass requests (Whole file) s = CountsPass requests file.now s
SumsPass requests (InPieces pieces) s = CountsPass requests pieces.now s
SumsPass requests (Listed frames) s = SomeRunPasses requests s (map (λ frame. frame.now) frames.now)
SumsPass requests Unlisted s = ⊥

-- ---- the end

-- What a writer holds before and after, by how a run ended: where this is the first fault of its input, Out is true of what it may
-- write, and Passes is true if a sum may pass 64 bits.
abbrev pub Ends : Option RunFault → (List ℕ → Type 0) → Type 0 → Result (Unit {0}) RunFault → Option (List ℕ) → Option (List ℕ) → Type 0
Ends first Out Passes (Ok done) before after = (first ≡ None) × (out : List ℕ) × Out out × Appends before after out
Ends first Out Passes (Err Settings) before after = (first ≡ Some Settings) × Keeps before after
Ends first Out Passes (Err (BadTrace n)) before after = (first ≡ Some (BadTrace n)) × Keeps before after
Ends first Out Passes (Err (Capture fault)) before after = (first ≡ Some (Capture fault)) × Keeps before after
Ends first Out Passes (Err Unlisted) before after = (first ≡ Some Unlisted) × Keeps before after
Ends first Out Passes (Err NoMemory) before after = (first ≡ None) × Keeps before after
Ends first Out Passes (Err Refused) before after = (first ≡ None) × Keeps before after
Ends first Out Passes (Err CountFull) before after = (first ≡ None) × Passes × Keeps before after
Ends first Out Passes (Err Write) before after = (first ≡ None) × (out : List ℕ) × Out out × AppendsPart before after out

-- how a run ended, whatever it says
abbrev pub ended : {A : Type 0} → Result A RunFault → Result (Unit {0}) RunFault
ended (Ok said) = Ok tt
ended (Err fault) = Err fault

-- that of a run of a file
abbrev pub Runs : List ℕ → List ℕ → RunSettings → Result (Unit {0}) RunFault → Option (List ℕ) → Option (List ℕ) → Type 0
Runs trace file s =
    let requests = accepted (requests_of trace) in
    Ends (input_fault trace file s) (IsOutput requests file s) (CountsPass requests file s)

-- that of a run of frames as they are held; a run that ends well says how many of them were cut
abbrev pub RunsFrames : List ℕ → FrameSource → RunSettings → Result (Option ℕ) RunFault → Option (List ℕ) → Option (List ℕ) → Type 0
RunsFrames trace frames s result =
    let requests = accepted (requests_of trace) in
    Ends (held_fault trace frames s) (IsOutputOf requests frames s) (SumsPass requests frames s) (ended result)

-- why there is nothing to write
abbrev pub IsWhyNone : Option RunFault → Type 0 → RunFault → Type 0
IsWhyNone first Passes Settings = first ≡ Some Settings
IsWhyNone first Passes (BadTrace n) = first ≡ Some (BadTrace n)
IsWhyNone first Passes (Capture fault) = first ≡ Some (Capture fault)
IsWhyNone first Passes Unlisted = first ≡ Some Unlisted
IsWhyNone first Passes NoMemory = first ≡ None
IsWhyNone first Passes Refused = first ≡ None
IsWhyNone first Passes CountFull = (first ≡ None) × Passes
IsWhyNone first Passes Write = ⊥
