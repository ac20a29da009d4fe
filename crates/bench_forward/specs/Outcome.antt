-- What the forwarding of the frames of a capture leaves, by how it ended.
use Rattle.std.specs.Prelude.{◌≡◌, ◌≤◌, ◌<◌, ◌+◌, ◌⊎◌, ℕ, List, [], Option, Some, None, Result, Ok, Err, length, take}
use Rattle.std.specs.Io.KnownBytes.{Appends, Keeps}
use Rattle.mib_state.specs.Entities.{Entities}
use Rattle.frame_stats.specs.Figures.{SomePasses}
use Rattle.bench_capture.specs.Reading.{Reading}
use Rattle.bench_capture.specs.Recorded.{Recorded}
use Rattle.bench_capture.specs.declared.fault.ReadFault.TheVariants.{Capture, Unreadable, NoMemory}
use Rattle.text_writing.specs.Written.{AppendsPart}
use Rattle.bench_forward.specs.Blocks.{section_block}
use Rattle.bench_forward.specs.Drops.{drops_header}
use Rattle.bench_forward.specs.Frames.{AreTotalsOf, drops_of, lines_of, packets_of, verdicts_on}
use Rattle.bench_forward.specs.declared.fault.ForwardFault.{ForwardFault}
use Rattle.bench_forward.specs.declared.fault.ForwardFault.TheVariants.{Read, CountFull, Write}
use Rattle.bench_forward.specs.declared.totals.Totals.{Totals}

-- what the three outputs hold before and after
pub record Written : Type 0 where
  pub packets_before : Option (List ℕ)
  pub packets_after : Option (List ℕ)
  pub drops_before : Option (List ℕ)
  pub drops_after : Option (List ℕ)
  pub lines_before : Option (List ℕ)
  pub lines_after : Option (List ℕ)

-- all that comes of these frames is written, and the totals are theirs
pub record AreForwarded (e : Entities) (port : ℕ) (frames : List Recorded) (w : Written) (t : Totals) : Type 0 where
  pub packets : Appends w.packets_before w.packets_after (packets_of e port frames)
  pub drops : Appends w.drops_before w.drops_after (drops_of e port frames)
  pub lines : Appends w.lines_before w.lines_after (lines_of e port frames)
  pub totals : AreTotalsOf e port frames t

-- so it is of the first n frames
pub record FirstAreForwarded (e : Entities) (port : ℕ) (frames : List Recorded) (n : ℕ) (w : Written) (t : Totals) : Type 0 where
  pub within : n ≤ length frames
  pub forwarded : AreForwarded e port (take n frames) w t

-- a front of what stands before all frames is written, and no line
pub record StopsInHeader (e : Entities) (port : ℕ) (w : Written) (t : Totals) : Type 0 where
  pub packets : AppendsPart w.packets_before w.packets_after section_block
  pub drops : AppendsPart w.drops_before w.drops_after (drops_header port)
  pub lines : Keeps w.lines_before w.lines_after
  pub totals : AreTotalsOf e port [] t

-- the known bytes grow by a front of bs, which is no shorter than some bytes
abbrev pub AppendsPast : Option (List ℕ) → Option (List ℕ) → List ℕ → List ℕ → Type 0
AppendsPast old new least bs = (n : ℕ) × (length least ≤ n) × (n ≤ length bs) × Appends old new (take n bs)

-- all that comes of the first n frames is written, and a front of what comes of the next. The totals are those of the first n
pub record StopsInFrame (e : Entities) (port : ℕ) (frames : List Recorded) (n : ℕ) (w : Written) (t : Totals) : Type 0 where
  pub within : n < length frames
  pub packets : AppendsPast w.packets_before w.packets_after (packets_of e port (take n frames)) (packets_of e port (take (n + 1) frames))
  pub drops : AppendsPast w.drops_before w.drops_after (drops_of e port (take n frames)) (drops_of e port (take (n + 1) frames))
  pub lines : AppendsPast w.lines_before w.lines_after (lines_of e port (take n frames)) (lines_of e port (take (n + 1) frames))
  pub totals : AreTotalsOf e port (take n frames) t

-- By how it ended, of all that there was to be read. Where the capture ended or a fault of it was met, the frames in front of that are
-- forwarded: those of the longest sound front.
abbrev pub Ends : Entities → ℕ → Reading → Result (Unit {0}) ForwardFault → Written → Totals → Type 0
Ends e port all (Ok done) w t = (all.fault ≡ None) × AreForwarded e port all.frames w t
Ends e port all (Err (Read (Capture fault))) w t = (all.fault ≡ Some fault) × AreForwarded e port all.frames w t
Ends e port all (Err (Read (Unreadable kind))) w t = (n : ℕ) × FirstAreForwarded e port all.frames n w t
Ends e port all (Err (Read NoMemory)) w t = (n : ℕ) × FirstAreForwarded e port all.frames n w t
Ends e port all (Err CountFull) w t =
    (n : ℕ) × FirstAreForwarded e port all.frames n w t × SomePasses (verdicts_on e port (take (n + 1) all.frames))
Ends e port all (Err Write) w t = StopsInHeader e port w t ⊎ ((n : ℕ) × StopsInFrame e port all.frames n w t)
