-- What is kept of events, so that the next can be judged without a look back.
use Rattle.std.specs.Prelude.{◌≡◌, ℕ, false, List, length, slice_index_or}
use Rattle.bench_history.specs.History.{doubts_in, frames_in, has_ended, is_ended, replies_in}
use Rattle.bench_history.specs.Doubts.{IsDoubted}
use Rattle.bench_history.specs.declared.event.Event.{Event}
use Rattle.bench_history.specs.declared.seen.Seen.{Seen}

-- a flag for each frame, whether it has ended; how many replies there are; whether the observation ended; and what is kept of
-- doubtful frames
pub record IsSeen (events : List Event) (seen : Seen) : Type 0 where
  pub frames : length seen.ended.items ≡ frames_in events
  pub ended : (n : ℕ) → slice_index_or seen.ended.items n false ≡ has_ended n events
  pub replies : seen.replies ≡ replies_in events
  pub over : seen.is_over ≡ is_ended events
  pub doubts : IsDoubted (doubts_in events) seen.doubts
