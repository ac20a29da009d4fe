use Rattle.std.proofs.Common.{arith, Some, ℕ, ◌<◌, length, ap, suc, zero, List, [], ◌∷◌, slice_index_or}
use Rattle.std.specs.Prelude.{IfSome, slice_get}
use Rattle.test_batches.proofs.storm.run_open.Goals as goal

-- what holds of what is at a place, if something is there, holds of what is there
at_place : {X : Type 0} (P : X → Type 0) (xs : List X) (k : ℕ) (d : X) → k < length xs → IfSome (slice_get xs k) P → P (slice_index_or xs k d)
at_place P [] k d lt there = absurd (omega arith)
at_place P (x ∷ xs) zero d lt there = there
at_place P (x ∷ xs) (suc k) d lt there = at_place P xs k d (omega arith) there

pub run_as-ran-requires-clause-lanes : goal.run_as-ran-requires-clause-lanes
run_as-ran-requires-clause-lanes g c κs within = λ k d lt.
    let new = c.in_ok-control.ensures.lanes in
    ap Some (at_place _ c.in_ok-control.lanes.items k d lt (new.1 k (omega (arith, new.0, lt)))).home_is
