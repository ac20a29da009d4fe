use Rattle.std.proofs.Common.{◌≡◌, ◌≤◌, vec_len, vec_capacity}
use Rattle.mib_state.proofs.instances.spare.Given as goal

abbrev pub invariant-loop-n : goal.invariant-loop-n
invariant-loop-n g l = record {
  made : vec_len l.spare ≡ l._n;
  room : g.E.ManagedEntity.ROOM ≤ vec_capacity l.spare;
}
