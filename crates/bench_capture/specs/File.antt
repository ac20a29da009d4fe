-- The frames of a capture file in either format, and its first fault.
use Rattle.std.specs.Prelude.{ℕ, List, map, if◌then◌else◌, option_and_then}
use Rattle.bench_capture.specs.Classic.{classic_of}
use Rattle.bench_capture.specs.Faults.{of_pcapng}
use Rattle.bench_capture.specs.Reading.{Reading}
use Rattle.bench_capture.specs.Recorded.{recorded_of}
use Rattle.bench_pcapng.specs.Reading as pcapng

-- what there is to be read in the pcapng format
abbrev pub reading_in : pcapng.Reading → Reading
reading_in all = record { frames = map recorded_of all.packets; fault = option_and_then of_pcapng all.fault }

-- a file is in the pcapng format if its first four bytes are 0a 0d 0d 0a, and in the classic one otherwise
unfoldable pub reading_of : List ℕ → Reading
reading_of file = if pcapng.is_pcapng file then reading_in (pcapng.reading_of file) else classic_of file
