use Rattle.std.proofs.Common.{◌≡◌, ◌++◌, drop}
use Rattle.run_capture.specs.Lines.{batch_lines_from}
use Rattle.run_capture.proofs.lines.put_batches.Given as goal

-- the lines so far and those of the batches that are left are all
abbrev pub invariant-loop-version : goal.invariant-loop-version
invariant-loop-version l = record {
  number : l.number ≡ l.version-index;
  lines : l.text.items ++ batch_lines_from l.number l.size l.left (drop l.version-index l.versions) ≡ l.fn.text.items ++ batch_lines_from 0 l.size l.frames l.versions;
}
