-- What taking one record gives.
use Rattle.std.specs.Prelude.{◌≡◌, ◌≤◌, ◌+◌, ℕ, List, Option, Some, None, Result, Ok, Err, length, drop}
use Rattle.bench_capture.specs.Classic.{first_recorded}
use Rattle.bench_capture.specs.Faults.{at_record}
use Rattle.bench_capture.specs.Formats.{IsWithin, recorded_at}
use Rattle.bench_capture.specs.declared.classic.Records.{Records}
use Rattle.bench_capture.specs.declared.fault.CaptureFileFault.{CaptureFileFault}
use Rattle.bench_capture.specs.declared.fault.CaptureFileFault.TheVariants.{Torn}
use Rattle.bench_capture.specs.declared.span.Span.{Span}
use Rattle.bench_capture.specs.declared.span.Taken.{Taken}
use Rattle.capture.specs.Records.{behind_first, record_fault}
use Rattle.capture.specs.declared.record.RecordFault.{RecordFault}

-- it has the first record's frame
abbrev pub HasFirst : Records → List ℕ → Option Span → Type 0
HasFirst old bytes None = ⊥
HasFirst old bytes (Some span) = (recorded_at bytes span ≡ first_recorded old.order old.nanoseconds bytes) × IsWithin bytes span

-- the record at the front is whole, and was taken
pub record IsRecord (old : Records) (bytes : List ℕ) (taken : Taken) (new : Records) : Type 0 where
  pub few : (old.number ≡ 4294967295) → ⊥
  pub whole : record_fault old.order bytes ≡ None
  pub some : 16 ≤ taken.length
  pub within : taken.length ≤ length bytes
  pub behind : drop taken.length bytes ≡ behind_first old.order bytes
  pub frame : HasFirst old bytes taken.frame
  pub counted : new ≡ record old { number = old.number + 1 }

-- there are too many records, or the one at the front has a fault
pub data WhyNoRecord (old : Records) (bytes : List ℕ) : CaptureFileFault → Type 0 where
  TooMany : old.number ≡ 4294967295 → WhyNoRecord old bytes (Torn old.number)
  Broken : (fault : RecordFault) → ((old.number ≡ 4294967295) → ⊥) → record_fault old.order bytes ≡ Some fault
      → WhyNoRecord old bytes (at_record old.number fault)

abbrev pub TakesRecord : Records → List ℕ → Result Taken CaptureFileFault → Records → Type 0
TakesRecord old bytes (Ok taken) new = IsRecord old bytes taken new
TakesRecord old bytes (Err fault) new = WhyNoRecord old bytes fault × (new ≡ old)
