-- Why a run's frames aren't had, and how many of those that are had were cut.
use Rattle.std.specs.Prelude.{ℕ, Option, Some, None}
use Rattle.capture.specs.declared.listed.ListFault.{ListFault}
use Rattle.capture.specs.declared.listed.ListFault.TheVariants as lists
use Rattle.capture_pieces.specs.CutFrames.{counted, cut_frames_of}
use Rattle.run_capture.specs.declared.fault.RunFault.{RunFault}
use Rattle.run_capture.specs.declared.fault.RunFault.TheVariants.{Capture, NoMemory}
use Rattle.run_capture.specs.declared.source.FrameSource.{FrameSource}
use Rattle.run_capture.specs.declared.source.FrameSource.TheVariants.{Whole, InPieces, Listed, Unlisted}

-- the fault of a run whose frames can't be listed
abbrev pub fault_of_list : ListFault → RunFault
fault_of_list (lists.Capture fault) = Capture fault
fault_of_list lists.NoMemory = NoMemory

-- how many frames of a capture were cut when they were taken; in a list it can't be seen
abbrev pub cut_frames_in : FrameSource → Option ℕ
cut_frames_in (Whole file) = Some (counted (cut_frames_of file.now))
cut_frames_in (InPieces pieces) = Some (counted (cut_frames_of pieces.now))
cut_frames_in (Listed frames) = None
cut_frames_in Unlisted = None
