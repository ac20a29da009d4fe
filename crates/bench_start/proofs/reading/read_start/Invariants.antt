use Rattle.std.proofs.Common.{◌≡◌, ◌≤◌, ◌+◌, ◌++◌, length, None}
use Rattle.script_lines.specs.Text.{lines_of}
use Rattle.script_trace.specs.Script.{bad_among, first_bad}
use Rattle.script_trace.specs.Trace.{requests_of}
use Rattle.bench_start.proofs.reading.read_start.Given as goal

abbrev pub invariant-loop-rest : goal.invariant-loop-rest
invariant-loop-rest l = record {
  so_far : first_bad None l.script ≡ bad_among l.number (lines_of l.rest);
  read : l.requests.items ++ requests_of l.rest ≡ requests_of l.script;
  small : l.number + length l.rest ≤ length l.script;
}

abbrev pub decreases-loop-rest : goal.decreases-loop-rest
decreases-loop-rest l = length l.rest
