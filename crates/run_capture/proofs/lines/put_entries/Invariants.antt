use Rattle.std.proofs.Common.{◌≡◌, ◌++◌}
use Rattle.run_capture.proofs.Totals.{Below, entry_lines}
use Rattle.run_capture.proofs.lines.put_entries.Given as goal

-- the lines so far and those of the entries that are left are all, and each key has 16 bits
abbrev pub invariant-loop-gem : goal.invariant-loop-gem
invariant-loop-gem l = record {
  lines : l.text.items ++ entry_lines l.gem-iterator ≡ l.fn.text.items ++ entry_lines l.ports.entries;
  small : Below 65536 l.gem-iterator → Below 65536 l.ports.entries;
}
