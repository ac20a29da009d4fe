use Rattle.std.proofs.Common.{◌≡◌, ◌≤◌, vec_len, vec_capacity, Some, map, length}
use Rattle.batch_reports.proofs.places.take_all.Given as goal

abbrev pub invariant-loop-slot : goal.invariant-loop-slot
invariant-loop-slot g l = record {
  room : vec_len l.fn.slots ≤ vec_capacity l.taken;
  len : vec_len l.taken ≡ length l.yielded;
  next : l.next ≡ length l.yielded;
  same : map Some l.taken.items ≡ l.yielded;
}
