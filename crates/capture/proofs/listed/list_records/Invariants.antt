-- The first fault is that of what is left, and the frames are those listed and those left.
use Rattle.std.proofs.Common.{◌≡◌, ◌≤◌, ◌++◌, length, map, vec_len}
use Rattle.capture.specs.Records.{first_fault, frames_in}
use Rattle.capture.proofs.Walk.{fault_at}
use Rattle.capture.proofs.listed.list_records.Given as goal

abbrev pub invariant-loop-rest : goal.invariant-loop-rest
invariant-loop-rest l = record {
  fault : fault_at l.order (vec_len l.list) l.rest ≡ first_fault l.order l.records;
  frames : map (λ frame. frame.now) l.list.items ++ frames_in l.order l.rest ≡ frames_in l.order l.records;
  few : vec_len l.list ≤ 4294967295;
}

abbrev pub decreases-loop-rest : goal.decreases-loop-rest
decreases-loop-rest l = length l.rest
