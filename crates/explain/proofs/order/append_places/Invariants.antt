use Rattle.std.proofs.Common.{◌≡◌, ◌++◌, drop}
use Rattle.explain.specs.Order.{places_from, places_of}
use Rattle.explain.proofs.order.append_places.Given as goal

abbrev pub invariant-loop-place : goal.invariant-loop-place
invariant-loop-place l = l.order.items ++ places_from l.rank l.place (drop l.place l.table) ≡ l.fn.order.items ++ places_of l.rank l.table
