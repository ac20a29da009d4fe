-- What is left to be read is what there was.
use Rattle.std.proofs.Common.{◌≡◌, true}
use Rattle.std.specs.Io.KnownBytes.{IsAtEnd}
use Rattle.bench_capture.specs.Formats.{FewKept}
use Rattle.bench_capture.proofs.Advancing.{StillLeaves}
use Rattle.bench_capture.proofs.reader.pass_first.Given as goal

abbrev pub invariant-loop : goal.invariant-loop
invariant-loop g l = record {
  leaves : StillLeaves (g.R.Read.remaining l.fn.reader) l.fn.format l.fn.window l.format l.window (g.R.Read.remaining l.reader);
  ended : l.ended ≡ true → IsAtEnd (g.R.Read.remaining l.reader);
  kept : FewKept l.format;
}
