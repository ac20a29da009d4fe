-- Captures are those of `capture` and of `bench_pcapng`.
use Rattle.std.specs.Prelude.{◌≡◌, true, false, List, ℕ, Some, None, Ok, Err, map}
use Rattle.bench_capture.specs.Faults.{number_of_fault, of_classic}
use Rattle.bench_capture.specs.File.{reading_of}
use Rattle.bench_capture.specs.Recorded.{recorded_of}
use Rattle.bench_capture.specs.declared.fault.CaptureFileFault as here
use Rattle.bench_pcapng.specs.Fault as numbers
use Rattle.bench_pcapng.specs.Reading as pcapng
use Rattle.bench_pcapng.specs.Reading.{is_pcapng}
use Rattle.bench_pcapng.specs.declared.fault.PcapngFault.{PcapngFault}
use Rattle.capture.specs.Records.{capture_of}
use Rattle.capture.specs.declared.fault.CaptureFault.{CaptureFault}

-- of a file that isn't in the pcapng format, where it is a capture, the frames store its frames and there is no fault; and its first
-- fault is the fault
pub record ClassicIsCapture : Type 0 where
  pub sound : (file : List ℕ) (frames : List (List ℕ)) → is_pcapng file ≡ false → capture_of file ≡ Ok frames
      → (map (λ frame. frame.bytes) (reading_of file).frames ≡ frames) × ((reading_of file).fault ≡ None)
  pub faulty : (file : List ℕ) (fault : CaptureFault) → is_pcapng file ≡ false → capture_of file ≡ Err fault
      → (reading_of file).fault ≡ Some (of_classic fault)

-- of a file in the pcapng format, each packet is a frame, and its first fault is one of the same number
pub record PcapngIsRead : Type 0 where
  pub frames : (file : List ℕ) → is_pcapng file ≡ true → (reading_of file).frames ≡ map recorded_of (pcapng.reading_of file).packets
  pub sound : (file : List ℕ) → is_pcapng file ≡ true → (pcapng.reading_of file).fault ≡ None → (reading_of file).fault ≡ None
  pub faulty : (file : List ℕ) (fault : PcapngFault) → is_pcapng file ≡ true → (pcapng.reading_of file).fault ≡ Some fault
      → (found : here.CaptureFileFault) × ((reading_of file).fault ≡ Some found) × (number_of_fault found ≡ numbers.number_of_fault fault)
