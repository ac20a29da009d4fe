use Rattle.std.proofs.Common.{◌≡◌, ◌≤◌, ◌<◌, ℕ, length, slice_index_or}
use Rattle.plan_publish.specs.declared.lane.Lane.{Lane}
use Rattle.plan_publish.specs.Told.{told_list}
use Rattle.run_lanes.specs.Settling.{HasLearnt}
use Rattle.run_lanes.proofs.run.learn_all.Given as goal

abbrev pub invariant-loop-lane : goal.invariant-loop-lane
invariant-loop-lane l = record {
  len : length l.lane-items ≡ length l.fn.lanes.items;
  done : (k : ℕ) (d : Lane) → k < l.lane-index → HasLearnt (told_list l.told) (slice_index_or l.fn.lanes.items k d) (slice_index_or l.lane-items k d);
  left : (k : ℕ) (d : Lane) → l.lane-index ≤ k → slice_index_or l.lane-items k d ≡ slice_index_or l.fn.lanes.items k d;
}
