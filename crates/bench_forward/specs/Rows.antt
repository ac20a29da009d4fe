-- What keeps totals from passing 64 bits: no count is more than that of all frames.
use Rattle.std.specs.Prelude.{◌≡◌, ◌≤◌, ℕ, List, length, slice_index, slice_index_or}
use Rattle.frame_meaning.specs.Reason.{reason_count}
use Rattle.bench_forward.specs.Dropped.{none_dropped}
use Rattle.bench_forward.specs.declared.dropped.Dropped.{Dropped}

-- there are so many counts, and none is more than this
pub record AreWithin (count most : ℕ) (counts : List ℕ) : Type 0 where
  pub every : length counts ≡ count
  pub each : (place : ℕ) → slice_index counts place ≤ most

-- the same of the frames that are dropped for each reason
pub record DropsAreWithin (most : ℕ) (drops : List Dropped) : Type 0 where
  pub every : length drops ≡ reason_count
  pub each : (place : ℕ) → (let dropped = slice_index_or drops place none_dropped in dropped.frames) ≤ most
