-- What is to be read of a capture.
use Rattle.std.specs.Prelude.{◌∷◌, [], List, Option, Some, None}
use Rattle.bench_capture.specs.Recorded.{Recorded}
use Rattle.bench_capture.specs.declared.fault.CaptureFileFault.{CaptureFileFault}

-- the frames up to the first fault, and that fault
pub record Reading : Type 0 where
  pub frames : List Recorded
  pub fault : Option CaptureFileFault

abbrev pub nothing_left : Reading
nothing_left = record { frames = []; fault = None }

abbrev pub stopped : CaptureFileFault → Reading
stopped fault = record { frames = []; fault = Some fault }

abbrev pub with_frame : Recorded → Reading → Reading
with_frame frame reading = record { frames = frame ∷ reading.frames; fault = reading.fault }
