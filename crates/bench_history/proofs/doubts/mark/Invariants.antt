use Rattle.std.proofs.Common.{◌≡◌, ◌||◌, ℕ, false, slice_index_or, take}
use Rattle.bench_history.specs.History.{is_among}
use Rattle.bench_history.proofs.doubts.mark.Given as goal

-- the flags of the frames so far are set
abbrev pub invariant-loop-number : goal.invariant-loop-number
invariant-loop-number l =
    (n : ℕ) → slice_index_or l.flags.items n false ≡ (is_among (take l.number-index l.frames) n || slice_index_or l.initial.flags.items n false)
