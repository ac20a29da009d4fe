use Rattle.std.proofs.Common.{◌≡◌, ◌||◌, ℕ, false, slice_index_or, take}
use Rattle.std.specs.List.{list_any}
use Rattle.bench_history.specs.Doubts.{settles}
use Rattle.bench_history.proofs.doubts.settle.Given as goal

-- the flags of the doubts so far are set
abbrev pub invariant-loop-doubt : goal.invariant-loop-doubt
invariant-loop-doubt l =
    (n : ℕ) → slice_index_or l.flags.items n false
    ≡ (list_any (settles n) (take l.doubt-index l.doubts) || slice_index_or l.initial.flags.items n false)
