use Rattle.std.proofs.Common.{◌≡◌, ◌≤◌, ◌+◌, length}
use Rattle.script_lines.specs.Text.{lines_of}
use Rattle.script_trace.specs.Script.{after_script, first_bad, told_by}
use Rattle.script_trace.proofs.Lines.{bad_behind, told_behind}
use Rattle.script_trace.proofs.apply.apply_script.Given as goal

abbrev pub invariant-loop-until : goal.invariant-loop-until
invariant-loop-until l = record {
  told : after_script l.until l.script ≡ told_behind l.number l.until (lines_of l.rest) (told_by l.applied);
  bad : first_bad l.until l.script ≡ bad_behind l.number l.until (lines_of l.rest);
  small : l.number + length l.rest ≤ length l.script;
}

abbrev pub decreases-loop-until : goal.decreases-loop-until
decreases-loop-until l = length l.rest
