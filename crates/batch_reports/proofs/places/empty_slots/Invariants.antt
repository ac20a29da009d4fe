use Rattle.std.proofs.Common.{◌≡◌, ◌≤◌, vec_len, vec_capacity, None}
use Rattle.std.specs.Prelude.{replicate}
use Rattle.batch_reports.proofs.places.empty_slots.Given as goal

abbrev pub invariant-loop-k : goal.invariant-loop-k
invariant-loop-k g l = record {
  room : l.count ≤ vec_capacity l.slots;
  len : vec_len l.slots ≡ l.k;
  free : l.slots.items ≡ replicate l.k None;
}
