-- What the calls of the readers give.
use Rattle.std.specs.Prelude.{◌≡◌, ⊤, Bool, true, false, Option, Some, None, Result, Ok, Err, IsSome}
use Rattle.bench_capture.specs.Reading.{Reading, nothing_left, stopped, with_frame}
use Rattle.bench_capture.specs.Recorded.{Recorded}
use Rattle.bench_capture.specs.declared.fault.CaptureFileFault.{CaptureFileFault}
use Rattle.bench_capture.specs.declared.fault.NextFrameFault.{NextFrameFault}
use Rattle.bench_capture.specs.declared.fault.NextFrameFault.TheVariants as frames
use Rattle.bench_capture.specs.declared.fault.ReadFault.{ReadFault}
use Rattle.bench_capture.specs.declared.fault.ReadFault.TheVariants.{Capture, Unreadable, NoMemory}

-- ---- a file in memory

-- what the opening of a file gives, of all that there is to be read: all of it, or the fault that its beginning has
abbrev pub IsOpened : Reading → Result Reading CaptureFileFault → Type 0
IsOpened all (Ok left) = left ≡ all
IsOpened all (Err fault) = all ≡ stopped fault

-- what the next call gives, of what was left to be read, and what is left then: the first frame and those behind it; nothing, where
-- no frame and no fault is left; or the fault that is left behind the last frame. Where nothing or a fault comes, as much is left as
-- before, and so it is where memory is wanting.
abbrev pub IsNext : Result (Option Recorded) NextFrameFault → Reading → Reading → Type 0
IsNext (Ok None) old new = (old ≡ nothing_left) × (new ≡ old)
IsNext (Ok (Some frame)) old new = old ≡ with_frame frame new
IsNext (Err (frames.Capture fault)) old new = (old ≡ stopped fault) × (new ≡ old)
IsNext (Err frames.NoMemory) old new = new ≡ old

-- ---- a file that is read in pieces

-- at which frame a reader stands, and what is left behind it, where the reader's bytes are known
pub record Position : Type 0 where
  pub frame : Option Recorded
  pub left : Option Reading

-- what the opening of a reader gives, of all that there is to be read: it stands in front of all of it, or the beginning has this
-- fault
abbrev pub BeginsReading : Reading → Result Position ReadFault → Type 0
BeginsReading all (Ok position) = position ≡ record { frame = None; left = Some all }
BeginsReading all (Err (Capture fault)) = all ≡ stopped fault
BeginsReading all (Err (Unreadable kind)) = ⊤
BeginsReading all (Err NoMemory) = ⊤

-- where a reader stands that has read on, of all that was left: at the first frame, with those behind it left; at none, where no
-- frame and no fault was left; or the fault that was left behind the last frame. Where it stands at none, as much is left as before.
abbrev pub GoesOn : Reading → Result Bool ReadFault → Position → Type 0
GoesOn all (Ok true) new =
    (frame : Recorded) × (left : Reading) × (new ≡ record { frame = Some frame; left = Some left }) × (all ≡ with_frame frame left)
GoesOn all (Ok false) new = (all ≡ nothing_left) × (new.left ≡ Some all)
GoesOn all (Err (Capture fault)) new = (all ≡ stopped fault) × (new.left ≡ Some all)
GoesOn all (Err (Unreadable kind)) new = new.left ≡ Some all
GoesOn all (Err NoMemory) new = new.left ≡ Some all

-- it stands at a frame just where the call said so
abbrev pub StandsAtFrame : Result Bool ReadFault → Option Recorded → Type 0
StandsAtFrame (Ok true) frame = IsSome frame
StandsAtFrame (Ok false) frame = frame ≡ None
StandsAtFrame (Err fault) frame = frame ≡ None
