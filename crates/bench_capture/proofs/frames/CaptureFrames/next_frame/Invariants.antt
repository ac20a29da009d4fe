-- What is left to be read is what there was.
use Rattle.std.proofs.Common.{◌≡◌, ◌+◌, ◌<◌, ◌^◌, length}
use Rattle.bench_capture.specs.Formats.{blocks_read, reading_at}
use Rattle.bench_capture.proofs.frames.CaptureFrames.next_frame.Given as goal

abbrev pub invariant-loop-self : goal.invariant-loop-self
invariant-loop-self l = record {
  reading : reading_at l.self-inside.format l.self-inside.rest.now ≡ l.fn.self;
  few : blocks_read l.self-inside.format + length l.self-inside.rest.now < 2 ^ 64;
}

abbrev pub decreases-loop-self : goal.decreases-loop-self
decreases-loop-self l = length l.self-inside.rest.now
