-- What is left to be read is what there was.
use Rattle.std.proofs.Common.{◌≡◌, ◌+◌, ◌<◌, ◌^◌, length}
use Rattle.bench_pcapng.specs.Reading.{reading_at}
use Rattle.bench_pcapng.specs.Walks.{place_of}
use Rattle.bench_pcapng.proofs.walk.Walk.next_packet.Given as goal

abbrev pub invariant-loop-self : goal.invariant-loop-self
invariant-loop-self l = record {
  reading : reading_at (place_of l.self) ≡ reading_at (place_of l.initial.self);
  few : l.self.blocks.number + length l.self.rest.now < 2 ^ 64;
}

abbrev pub decreases-loop-self : goal.decreases-loop-self
decreases-loop-self l = length l.self.rest.now
