-- What is counted of the verdicts on frames.
use Rattle.std.specs.Prelude.{◌≡◌, ◌<◌, ◌≤◌, ◌^◌, ℕ, ◌+◌, ◌-◌, ◌==◌, Bool, false, if◌then◌else◌, List, length, take, filter, slice_index}
use Rattle.std.specs.List.{sum_by}
use Rattle.tag_view.specs.Frame.{frame_bytes}
use Rattle.frame_meaning.specs.declared.reason.Reason.{Reason}
use Rattle.frame_meaning.specs.declared.verdict.Verdict.{Verdict}
use Rattle.frame_meaning.specs.declared.verdict.Verdict.TheVariants.{Forward, Drop}
use Rattle.frame_meaning.specs.Reason.{number_of_reason}
use Rattle.frame_stats.specs.declared.counts.Counts.{Counts}
use Rattle.frame_stats.specs.declared.port_counts.PortCounts.{PortCounts}
use Rattle.frame_stats.specs.Ports.{in_map}
use Rattle.frame_stats.specs.Runs.{in_runs}

-- the frames, the bytes that leave, the frames that are dropped for a reason, and those that leave by a GEM port
pub data Figure : Type 0 where
  Frames : Figure
  Bytes : Figure
  DropsFor : (reason : Reason) → Figure
  FramesTo : (port : ℕ) → Figure

-- how many GEM ports there may be, as a port-ID has 16 bits
abbrev pub gem_ports : ℕ
gem_ports = 65536

-- ---- of verdicts

-- the bytes that leave with a verdict
abbrev pub bytes_leaving : Verdict → ℕ
bytes_leaving (Forward gem frame) = length (frame_bytes frame)
bytes_leaving (Drop reason) = 0

abbrev pub is_drop_for : Reason → Verdict → Bool
is_drop_for reason (Forward gem frame) = false
is_drop_for reason (Drop found) = number_of_reason found == number_of_reason reason

abbrev pub leaves_by_port : ℕ → Verdict → Bool
leaves_by_port port (Forward gem frame) = gem == port
leaves_by_port port (Drop reason) = false

-- a figure of a list of verdicts
abbrev pub figure : Figure → List Verdict → ℕ
figure Frames verdicts = length verdicts
figure Bytes verdicts = sum_by bytes_leaving verdicts
figure (DropsFor reason) verdicts = length (filter (is_drop_for reason) verdicts)
figure (FramesTo port) verdicts = length (filter (leaves_by_port port) verdicts)

-- ---- of counts

-- the count of a GEM port
abbrev pub at_port : PortCounts → ℕ → ℕ
at_port ports port = in_map ports.others port + in_runs port ports.runs

-- the figure that counts show
abbrev pub counted : Counts → Figure → ℕ
counted c Frames = c.frames
counted c Bytes = c.bytes
counted c (DropsFor reason) = slice_index c.drops (number_of_reason reason - 1)
counted c (FramesTo port) = at_port c.ports port

-- a GEM port has more frames, and every other as many as before
abbrev pub AddsFrames : ℕ → ℕ → PortCounts → PortCounts → Type 0
AddsFrames gem frames old new =
    (port : ℕ) → at_port new port ≡ at_port old port + (if gem == port then frames else 0)

-- these counts are those of the verdicts
pub record AreCountsOf (verdicts : List Verdict) (c : Counts) : Type 0 where
  pub figures : (f : Figure) → counted c f ≡ figure f verdicts

-- a sum of the verdicts passes 64 bits
abbrev pub SomePasses : List Verdict → Type 0
SomePasses verdicts = (f : Figure) × (2 ^ 64 ≤ figure f verdicts)

-- the verdict at this place is the first of its GEM port, and no sum up to it passes 64 bits
pub record NamesPort (verdicts : List Verdict) (place : ℕ) : Type 0 where
  pub inside : place < length verdicts
  pub port : ℕ
  pub first : figure (FramesTo port) (take place verdicts) ≡ 0
  pub named : figure (FramesTo port) (take (place + 1) verdicts) ≡ 1
  pub fits : (f : Figure) → figure f (take (place + 1) verdicts) < 2 ^ 64

-- ---- of two counts

-- these are the sums of two counts
pub record AreSums (a b c : Counts) : Type 0 where
  pub figures : (f : Figure) → counted c f ≡ counted a f + counted b f

-- a sum of two counts passes 64 bits
abbrev pub SomeSumPasses : Counts → Counts → Type 0
SomeSumPasses a b = (f : Figure) × (2 ^ 64 ≤ counted a f + counted b f)

-- no sum that the second has a part in passes 64 bits
abbrev pub SumsFit : Counts → Counts → Type 0
SumsFit a b = (f : Figure) → 0 < counted b f → counted a f + counted b f < 2 ^ 64

-- no sum of two counts passes 64 bits
abbrev pub AllSumsFit : Counts → Counts → Type 0
AllSumsFit a b = (f : Figure) → counted a f + counted b f < 2 ^ 64
