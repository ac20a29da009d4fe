-- The faults of a capture, their numbers, and what they are in either format.
use Rattle.std.specs.Prelude.{ℕ, Option, Some, None}
use Rattle.bench_capture.specs.declared.fault.CaptureFileFault.{CaptureFileFault}
use Rattle.bench_capture.specs.declared.fault.CaptureFileFault.TheVariants.{Magic, Header, Link, Torn, TooLong}
use Rattle.bench_pcapng.specs.declared.fault.PcapngFault.{PcapngFault}
use Rattle.bench_pcapng.specs.declared.fault.PcapngFault.TheVariants as pcapng
use Rattle.capture.specs.declared.fault.CaptureFault as classic
use Rattle.capture.specs.declared.fault.CaptureFault.TheVariants as classic_faults
use Rattle.capture.specs.declared.record.RecordFault.{RecordFault}
use Rattle.capture.specs.declared.record.RecordFault.TheVariants as records

abbrev pub number_of_fault : CaptureFileFault → ℕ
number_of_fault Magic = 1
number_of_fault Header = 2
number_of_fault (Link link) = 3
number_of_fault (Torn n) = 4
number_of_fault (TooLong n) = 5

-- the fault of a capture whose record of this number has one
abbrev pub at_record : ℕ → RecordFault → CaptureFileFault
at_record n records.Torn = Torn n
at_record n records.TooLong = TooLong n

-- a fault of a capture in the classic format
abbrev pub of_classic : classic.CaptureFault → CaptureFileFault
of_classic classic_faults.Magic = Magic
of_classic classic_faults.Header = Header
of_classic (classic_faults.Link link) = Link link
of_classic (classic_faults.Torn n) = Torn n
of_classic (classic_faults.TooLong n) = TooLong n

-- a fault of a capture in the pcapng format; want of memory is no fault of a capture
abbrev pub of_pcapng : PcapngFault → Option CaptureFileFault
of_pcapng pcapng.Header = Some Header
of_pcapng (pcapng.Link link) = Some (Link link)
of_pcapng (pcapng.Torn n) = Some (Torn n)
of_pcapng (pcapng.TooLong n) = Some (TooLong n)
of_pcapng pcapng.NoMemory = None
