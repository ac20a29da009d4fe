-- The bytes that are held and those that are left are those that there were.
use Rattle.std.proofs.Common.{◌≡◌, true}
use Rattle.std.specs.Io.KnownBytes.{IsAtEnd, Keeps, prepend_known}
use Rattle.bench_capture.specs.Windows.{held}
use Rattle.bench_capture.proofs.reader.open_format.Given as goal

abbrev pub invariant-loop : goal.invariant-loop
invariant-loop g l = record {
  kept : Keeps (prepend_known (held l.fn.window) (g.R.Read.remaining l.fn.reader)) (prepend_known (held l.window) (g.R.Read.remaining l.reader));
  ended : l.ended ≡ true → IsAtEnd (g.R.Read.remaining l.reader);
}
