use Rattle.std.proofs.Common.{◌≡◌, ◌≤◌, ◌+◌, ◌++◌, length}
use Rattle.script_trace.specs.Trace.{first_bad, requests_of}
use Rattle.script_trace.proofs.TraceLines.{bad_from}
use Rattle.script_trace.proofs.requests.read_requests.Given as goal

abbrev pub invariant-loop-rest : goal.invariant-loop-rest
invariant-loop-rest l = record {
  so_far : first_bad l.trace ≡ bad_from l.number l.rest;
  read : l.requests.items ++ requests_of l.rest ≡ requests_of l.trace;
  small : l.number + length l.rest ≤ length l.trace + 1;
}

abbrev pub decreases-loop-rest : goal.decreases-loop-rest
decreases-loop-rest l = length l.rest
