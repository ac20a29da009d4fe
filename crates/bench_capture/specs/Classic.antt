-- The frames of a capture in the classic format, with their times, and its first fault. The header and the records are those of
-- `capture`. The first four bytes of a record are the seconds, and the next four their fraction.
use Rattle.std.specs.Prelude.{ℕ, zero, suc, ◌+◌, ◌*◌, ◌^◌, Bool, List, Option, Some, None, Result, Ok, Err, if◌then◌else◌, ◌==◌, length, drop}
use Rattle.bench_capture.specs.Faults.{at_record, of_classic}
use Rattle.bench_capture.specs.Reading.{Reading, nothing_left, stopped, with_frame}
use Rattle.bench_capture.specs.Recorded.{Recorded}
use Rattle.bench_capture.specs.declared.fault.CaptureFileFault.TheVariants.{Torn}
use Rattle.capture.specs.Numbers.{number_in}
use Rattle.capture.specs.Records.{behind_first, first_frame, header_of, record_fault}
use Rattle.capture.specs.declared.fault.CaptureFault as classic
use Rattle.capture.specs.declared.order.Order.{Order}
use Rattle.capture.specs.declared.record.RecordFault.{RecordFault}

-- whether the fractions are in nanoseconds, as the magic number says, and not in microseconds
abbrev pub has_nanoseconds : Order → List ℕ → Bool
has_nanoseconds order file = number_in order file == 0xa1b23c4d

-- nanoseconds since the epoch
abbrev pub nanoseconds_of : Bool → ℕ → ℕ → ℕ
nanoseconds_of nanoseconds seconds fraction = seconds * 10 ^ 9 + (if nanoseconds then fraction else fraction * 1000)

-- the frame of the first record
abbrev pub first_recorded : Order → Bool → List ℕ → Recorded
first_recorded order nanoseconds bytes = record {
  time = nanoseconds_of nanoseconds (number_in order bytes) (number_in order (drop 4 bytes));
  original = number_in order (drop 12 bytes);
  bytes = first_frame order bytes;
}

-- the record of this number and those behind it, if it has no fault
abbrev pub record_or_fault : ℕ → Option RecordFault → Recorded → Reading → Reading
record_or_fault n (Some fault) frame later = stopped (at_record n fault)
record_or_fault n None frame later = with_frame frame later

-- What so many records at most give, the first of which has number n. Bytes behind 4,294,967,295 records are a torn one.
abbrev pub records_from : ℕ → Order → Bool → ℕ → List ℕ → Reading
records_from zero order nanoseconds n bytes = nothing_left
records_from (suc most) order nanoseconds n bytes =
    if length bytes == 0 then nothing_left
    else (if n == 4294967295 then stopped (Torn n)
    else record_or_fault n (record_fault order bytes) (first_recorded order nanoseconds bytes)
    (records_from most order nanoseconds (n + 1) (behind_first order bytes)))

-- what all of them give: no record is without bytes, so there are never more than bytes
unfoldable pub records_at : Order → Bool → ℕ → List ℕ → Reading
records_at order nanoseconds n bytes = records_from (length bytes) order nanoseconds n bytes

abbrev pub records_behind : Result Order classic.CaptureFault → List ℕ → Reading
records_behind (Err fault) file = stopped (of_classic fault)
records_behind (Ok order) file = records_at order (has_nanoseconds order file) 0 (drop 24 file)

-- the frames of a file and its first fault
unfoldable pub classic_of : List ℕ → Reading
classic_of file = records_behind (header_of file) file
