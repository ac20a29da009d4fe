-- Captures in the pcapng format are those of `bench_pcapng`.
use Rattle.std.proofs.Common.{◌≡◌, true, List, ℕ, map, Option, Some, None, refl, ap, ◌∙◌}
use Rattle.std.specs.Prelude.{option_and_then}
use Rattle.bench_capture.specs.Faults.{number_of_fault, of_pcapng}
use Rattle.bench_capture.specs.File.{reading_in, reading_of}
use Rattle.bench_capture.specs.Recorded.{recorded_of}
use Rattle.bench_capture.specs.declared.fault.CaptureFileFault.{CaptureFileFault}
use Rattle.bench_capture.specs.declared.fault.CaptureFileFault.TheVariants as here
use Rattle.bench_pcapng.specs.Fault as numbers
use Rattle.bench_pcapng.specs.Reading as pcapng
use Rattle.bench_pcapng.specs.Reading.{is_pcapng}
use Rattle.bench_pcapng.specs.declared.fault.PcapngFault.{PcapngFault}
use Rattle.bench_pcapng.specs.declared.fault.PcapngFault.TheVariants as faults
use Rattle.bench_pcapng.proofs.Memory.{never_memory}

file_is : (file : List ℕ) → is_pcapng file ≡ true → reading_of file ≡ reading_in (pcapng.reading_of file)
unfolding reading_of
file_is file told = rw told refl

pub frames : (file : List ℕ) → is_pcapng file ≡ true → (reading_of file).frames ≡ map recorded_of (pcapng.reading_of file).packets
frames file told = rw (file_is file told) refl

pub sound : (file : List ℕ) → is_pcapng file ≡ true → (pcapng.reading_of file).fault ≡ None → (reading_of file).fault ≡ None
sound file told none = rw (file_is file told) (ap (λ (found : Option PcapngFault). option_and_then of_pcapng found) none)

numbered : (fault : PcapngFault) → (fault ≡ faults.NoMemory → ⊥) → (found : CaptureFileFault) × (of_pcapng fault ≡ Some found) × (number_of_fault found ≡ numbers.number_of_fault fault)
numbered faults.Header never = (here.Header, refl, refl)
numbered (faults.Link link) never = (here.Link link, refl, refl)
numbered (faults.Torn n) never = (here.Torn n, refl, refl)
numbered (faults.TooLong n) never = (here.TooLong n, refl, refl)
numbered faults.NoMemory never = absurd (never refl)

pub faulty : (file : List ℕ) (fault : PcapngFault) → is_pcapng file ≡ true → (pcapng.reading_of file).fault ≡ Some fault
    → (found : CaptureFileFault) × ((reading_of file).fault ≡ Some found) × (number_of_fault found ≡ numbers.number_of_fault fault)
faulty file fault told is =
    let named = numbered fault (λ memory. never_memory file (is ∙ ap (λ (f : PcapngFault). Some f) memory)) in (
      named.0,
      rw (file_is file told) (ap (λ (found : Option PcapngFault). option_and_then of_pcapng found) is ∙ named.1),
      named.2,
    )
