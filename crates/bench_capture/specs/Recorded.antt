-- A frame as a capture has it.
use Rattle.std.specs.Prelude.{ℕ, List}
use Rattle.bench_pcapng.specs.Captured.{Captured}

-- its time in nanoseconds since the epoch, how many bytes the frame had, and those of them that are stored
pub record Recorded : Type 0 where
  pub time : ℕ
  pub original : ℕ
  pub bytes : List ℕ

-- a packet of the pcapng format, whichever its interface
abbrev pub recorded_of : Captured → Recorded
recorded_of packet = record { time = packet.time; original = packet.original; bytes = packet.bytes }
