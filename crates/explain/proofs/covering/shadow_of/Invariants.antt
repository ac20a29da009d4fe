use Rattle.std.proofs.Common.{◌≡◌, ◌<◌, length}
use Rattle.std.specs.Prelude.{All, find}
use Rattle.explain.specs.Order.{tried_order}
use Rattle.explain.specs.Covers.{is_shadowed_by}
use Rattle.explain.proofs.covering.shadow_of.Given as goal

abbrev pub invariant-each : goal.invariant-each
invariant-each l = record {
  first : find (is_shadowed_by l.table l.place) l.other-iterator.rest.now ≡ find (is_shadowed_by l.table l.place) (tried_order l.table);
  in_range : All (λ place. place < length l.table) l.other-iterator.rest.now;
}
