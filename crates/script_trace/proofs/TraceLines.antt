-- The first of some lines that may not stand.
use Rattle.std.proofs.Common.{ℕ, ◌+◌, List, Option}
use Rattle.std.specs.Prelude.{not, option_map, position}
use Rattle.script_lines.specs.Line.{asked_by}
use Rattle.script_lines.specs.Text.{lines_of}
use Rattle.script_trace.specs.Trace.{may_stand}
use Rattle.script_trace.specs.declared.line.FrameLines.TheVariants.{Bad}

-- the number of the first line that may not stand, where the first line has this number
abbrev pub bad_from : ℕ → List ℕ → Option ℕ
bad_from number text = option_map (λ n. n + number) (position (λ line. not (may_stand Bad (asked_by line))) (lines_of text))
