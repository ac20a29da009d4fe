use Rattle.std.proofs.Common.{◌≡◌, ◌≤◌, ◌+◌, vec_len, vec_capacity}
use Rattle.mib_state.proofs.instances.Instances.clear.Given as goal

abbrev pub invariant-loop-entity : goal.invariant-loop-entity
invariant-loop-entity g l = record {
  rows_room : g.E.ManagedEntity.ROOM ≤ vec_capacity l.self-inside.rows;
  spare_room : g.E.ManagedEntity.ROOM ≤ vec_capacity l.self-inside.spare;
  all : vec_len l.self-inside.rows + vec_len l.self-inside.spare ≡ g.E.ManagedEntity.ROOM;
}

abbrev pub decreases-loop-entity : goal.decreases-loop-entity
decreases-loop-entity g l = vec_len l.self-inside.rows
