-- What the numbers of the words may be.
use Rattle.std.specs.Prelude.{◌≤◌, ℕ, Option, IfSome}
use Rattle.run_settings.specs.Settings.{CanRun}
use Rattle.run_settings.specs.declared.settings.RunSettings.{RunSettings}
use Rattle.command_words.specs.declared.words.Words.{Words}
use Rattle.command_words.specs.declared.words.Words.TheVariants.{Replay, Run, Decode, Mib, Rules, Explain, Judge, Forward, Record, Encode, Lint, Graph, Cover, Diff, Hitless, Expect, Migrate}
use Rattle.command_words.specs.declared.words.FrameWords.{FrameWords}
use Rattle.command_words.specs.declared.words.FrameWords.TheVariants.{Bytes, Captured}

-- a port of 16 bits, and lanes and batches that a run can have
pub record AreInRange (settings : RunSettings) : Type 0 where
  pub port : settings.port ≤ 65535
  pub limits : CanRun settings

-- a transaction correlation identifier, or a port or a length that may be left out, is a number of 16 bits
abbrev pub IsShort : Option ℕ → Type 0
IsShort number = IfSome number (λ n. n ≤ 65535)

-- the number of a line, or of milliseconds, is one of 32 bits
abbrev pub IsLine : Option ℕ → Type 0
IsLine number = IfSome number (λ n. n ≤ 4294967295)

-- so is that of a frame
abbrev pub IsFrameInRange : FrameWords → Type 0
IsFrameInRange (Bytes digits) = Unit {0}
IsFrameInRange (Captured file number) = number ≤ 4294967295

-- a port is one of 16 bits
abbrev pub IsInRange : Words → Type 0
IsInRange (Replay words) = Unit {0}
IsInRange (Run words) = AreInRange words.settings × IsLine words.until
IsInRange (Decode words) = Unit {0}
IsInRange (Mib words) = IsLine words.traces.until
IsInRange (Rules words) = (words.port ≤ 65535) × IsLine words.traces.until
IsInRange (Explain words) = (words.port ≤ 65535) × IsFrameInRange words.frame × IsLine words.trace.until
IsInRange (Judge words) = IsLine words.listed × IsShort words.coverage
IsInRange (Forward words) = (words.port ≤ 65535) × IsLine words.trace.until
IsInRange (Record words) = IsLine words.wait × IsLine words.lost
IsInRange (Encode words) = IsShort words.identifier
IsInRange (Lint words) = IsLine words.traces.until
IsInRange (Graph words) = IsShort words.port × IsLine words.trace.until
IsInRange (Cover words) = IsShort words.port × IsShort words.least × IsLine words.trace.until
IsInRange (Diff words) = IsLine words.from × IsShort words.port × IsShort words.least × IsLine words.trace.until
IsInRange (Hitless words) = (words.from ≤ 4294967295) × IsShort words.port × IsShort words.least × IsLine words.trace.until
IsInRange (Expect words) = IsLine words.from × IsShort words.least × IsLine words.trace.until
IsInRange (Migrate words) = IsLine words.from × IsShort words.identifier × IsLine words.trace.until
