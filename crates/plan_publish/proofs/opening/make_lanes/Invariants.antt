use Rattle.std.proofs.Common.{◌≡◌, ℕ, ◌<◌, ◌≤◌, IfSome, vec_len, vec_capacity, slice_get}
use Rattle.left_right.specs.Sides.{view}
use Rattle.plan_publish.specs.Lane.{IsNew}
use Rattle.plan_publish.proofs.opening.make_lanes.Given as goal

abbrev pub invariant-loop-number : goal.invariant-loop-number
invariant-loop-number l =
    ((vec_len l.all ≡ l.number) × (l.fn.lanes ≤ vec_capacity l.all) × ((k : ℕ) → k < l.number → IfSome (slice_get l.all.items k) (λ x. IsNew x k l.history.seen.book)))
    × (l.writer.desk.shown ≡ l.fn.writer.desk.shown) × (view l.writer.desk.place ≡ view l.fn.writer.desk.place) × (l.writer.log ≡ l.fn.writer.log) × (l.writer.behind ≡ l.fn.writer.behind)
