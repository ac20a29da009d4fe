use Rattle.std.proofs.Common.{List, ℕ, ◌≡◌, ◌≤◌, ◌++◌, length, ◌+◌, take, drop}
use Rattle.managed_entity.specs.Mask.{named_width}
use Rattle.managed_entity.specs.Write.{written}
use Rattle.managed_entity.proofs.write.write.Given as goal

abbrev pub invariant-loop-place : goal.invariant-loop-place
invariant-loop-place g l =
    let values = g.E.ManagedEntity.values in
    let layout = g.E.ManagedEntity.layout in
    record {
      entries : ◌≡◌ {A = List (List ℕ)} (g.E.ManagedEntity.entries l.entity) (g.E.ManagedEntity.entries l.fn.entity);
      room : l.used + named_width l.mask l.place (drop l.place layout) ≤ length l.bytes;
      done : take l.place (values l.entity) ++ written l.mask l.place (drop l.place layout) (drop l.used l.bytes) (drop l.place (values l.entity)) ≡ written l.mask 0 layout l.bytes (values l.fn.entity);
    }
