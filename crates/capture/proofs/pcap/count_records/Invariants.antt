-- The first fault is that of what is left, and the frames are those passed and those left.
use Rattle.std.proofs.Common.{◌≡◌, ◌+◌, length}
use Rattle.capture.specs.Records.{first_fault, frames_in}
use Rattle.capture.proofs.Walk.{fault_at}
use Rattle.capture.proofs.pcap.count_records.Given as goal

abbrev pub invariant-loop-rest : goal.invariant-loop-rest
invariant-loop-rest l = record {
  fault : fault_at l.order l.count l.rest ≡ first_fault l.order l.records;
  frames : l.count + length (frames_in l.order l.rest) ≡ length (frames_in l.order l.records);
}

abbrev pub decreases-loop-rest : goal.decreases-loop-rest
decreases-loop-rest l = length l.rest
