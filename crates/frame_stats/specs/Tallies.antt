-- What one verdict adds to a figure.
use Rattle.std.specs.Prelude.{ℕ, ◌==◌, length, if◌then◌else◌}
use Rattle.tag_view.specs.Frame.{frame_bytes}
use Rattle.frame_meaning.specs.declared.reason.Reason.{Reason}
use Rattle.frame_meaning.specs.declared.verdict.Verdict.{Verdict}
use Rattle.frame_meaning.specs.declared.verdict.Verdict.TheVariants.{Forward, Drop}
use Rattle.frame_meaning.specs.Reason.{number_of_reason}
use Rattle.frame_stats.specs.Figures.{Figure, Frames, Bytes, DropsFor, FramesTo}

-- what a frame of this length that leaves by this port adds to a figure
abbrev pub leaving : Figure → ℕ → ℕ → ℕ
leaving Frames gem len = 1
leaving Bytes gem len = len
leaving (DropsFor reason) gem len = 0
leaving (FramesTo port) gem len = if gem == port then 1 else 0

-- what a drop adds
abbrev pub dropping : Figure → Reason → ℕ
dropping Frames found = 1
dropping Bytes found = 0
dropping (DropsFor reason) found = if number_of_reason found == number_of_reason reason then 1 else 0
dropping (FramesTo port) found = 0

-- what a verdict adds
abbrev pub weight : Figure → Verdict → ℕ
weight f (Forward gem frame) = leaving f gem (length (frame_bytes frame))
weight f (Drop found) = dropping f found
