-- The frames that may still leave, as the program finds them by their cores.
use Rattle.std.specs.Prelude.{◌≡◌, ◌≤◌, ℕ, ◌-◌, ◌*◌, ◌&&◌, Bool, true, false, List, [], filter, length, map, min, take, Option, Some, None, option_map, unwrap_or, nat_le, nat_lt, slice_get}
use Rattle.std.specs.List.{list_all, range_with_len}
use Rattle.std.specs.HashMap as table
use Rattle.std.specs.Str.{bytes_eq}
use Rattle.bench_history.specs.Doubts.{IsDoubted}
use Rattle.bench_history.specs.declared.extent.Extent.{Extent}
use Rattle.bench_history.specs.declared.extent.Extent.TheVariants.{Whole, Front}
use Rattle.bench_record.specs.Cores.{Core, without_zeros}
use Rattle.bench_record.specs.Keys.{is_same_key}
use Rattle.bench_record.specs.Matching.{Frames, SentFrame, is_open}
use Rattle.bench_record.specs.Recorded.{PassedOver, Seen}
use Rattle.bench_record.specs.Text.{timed_shown}
use Rattle.bench_record.specs.declared.core_key.CoreKey.{CoreKey}
use Rattle.bench_record.specs.declared.frame_core.FrameCore as given
use Rattle.bench_record.specs.declared.open_frames.OpenFrames.{OpenFrames}
use Rattle.bench_record.specs.declared.passed.Passed.{Passed}
use Rattle.bench_record.specs.declared.matching.KeptFrame.{KeptFrame}
use Rattle.bench_record.specs.declared.walk.Walk.{Walk}

-- ---- cores

-- a core, as the program has it
abbrev pub core_shown : given.FrameCore → Core
core_shown core = record { padded = core.padded; extent = core.extent; addresses = core.addresses.now; rest = core.rest.now }

-- a front has at least so many bytes behind its tags
abbrev pub is_long_by : ℕ → Extent → List ℕ → Bool
is_long_by shortest Whole rest = true
is_long_by shortest Front rest = nat_le shortest (length rest)

abbrev pub is_long : ℕ → Core → Bool
is_long shortest core = is_long_by shortest core.extent core.rest

-- the less of a number and of how many bytes are known behind the tags of a frame, if these aren't all
abbrev pub shorter_by : ℕ → Extent → List ℕ → ℕ
shorter_by shortest Whole rest = shortest
shorter_by shortest Front rest = min shortest (length rest)

abbrev pub shorter : ℕ → Core → ℕ
shorter shortest core = shorter_by shortest core.extent core.rest

-- ---- queues

-- as much of a rest as is known of all frames, without the zeros that end it
abbrev pub key_rest : ℕ → List ℕ → List ℕ
key_rest shortest rest = without_zeros (take shortest rest)

-- a queue is found by the addresses, and that much of the rest
abbrev pub has_key : ℕ → CoreKey → Option SentFrame → Bool
has_key shortest key (Some sent) = bytes_eq sent.core.addresses key.addresses.now && bytes_eq (key_rest shortest sent.core.rest) key.rest.now
has_key shortest key None = false

-- the queue of a key
abbrev pub queue_of : OpenFrames → CoreKey → List ℕ
queue_of index key = unwrap_or (option_map (λ queue. queue.items) (table.get is_same_key index.queues key)) []

-- the open frames of a key, by their numbers
abbrev pub open_of : Option ℕ → ℕ → ℕ → Frames → CoreKey → List ℕ
open_of lost time shortest frames key =
    filter (λ n. is_open lost time frames n && has_key shortest key (slice_get frames.sent n)) (range_with_len 0 (length frames.sent))

-- for each key, and each time from one on, the queue has the open frames of it; others that were sent may stand there too
pub record IsIndex (lost : Option ℕ) (since shortest : ℕ) (frames : Frames) (index : OpenFrames) : Type 0 where
  pub within : (key : CoreKey) → list_all (λ n. nat_lt n (length frames.sent)) (queue_of index key) ≡ true
  pub still_open : (key : CoreKey) (time : ℕ) → since ≤ time → filter (is_open lost time frames) (queue_of index key) ≡ open_of lost time shortest frames key

-- the first time at which a frame can have been sent that isn't lost before this time
abbrev pub earliest_of : Option ℕ → ℕ → ℕ
earliest_of (Some lost) time = time - lost * 1000000
earliest_of None time = 0

-- ---- the program's parts

-- what is kept of a frame that was sent
abbrev pub kept_shown : KeptFrame → SentFrame
kept_shown kept = record { time = kept.time; core = core_shown kept.core; has_left = kept.has_left; hidden_before = kept.hidden_before }

abbrev pub passed_shown : Passed → PassedOver
passed_shown passed =
    record { other = passed.other.items; unread = passed.unread.items; early = passed.early.items; unwritable = passed.unwritable.items }

-- this was seen, no frame later than at this time
pub record IsSeen (lost : Option ℕ) (time : ℕ) (seen : Seen) (walk : Walk) : Type 0 where
  pub sent : map kept_shown walk.sent.items ≡ seen.frames.sent
  pub waiting : IsIndex lost time walk.shortest seen.frames walk.waiting
  pub doubts : IsDoubted seen.frames.named walk.doubts
  pub long : list_all (λ (sent : SentFrame). is_long walk.shortest sent.core) seen.frames.sent ≡ true
  pub replies : walk.replies ≡ seen.replies
  pub events : map timed_shown walk.events.items ≡ seen.events
  pub passed : passed_shown walk.passed ≡ seen.passed
  pub hidden : walk.hidden.items ≡ seen.hidden
  pub unnumbered : walk.unnumbered ≡ seen.unnumbered

-- a frame of a core can be seen at a time: what was seen before isn't later, and as much is known of it as of all
pub record CanSee (lost : Option ℕ) (time : ℕ) (core : Core) (walk : Walk) : Type 0 where
  pub since : ℕ
  pub seen : Seen
  pub is : IsSeen lost since seen walk
  pub within : since ≤ time
  pub long : is_long walk.shortest core ≡ true

-- the numbers of the frames that were sent have 32 bits
abbrev pub HasNumbers : Walk → Type 0
HasNumbers walk = length walk.sent.items ≤ 4294967296
