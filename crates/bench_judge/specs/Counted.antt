-- How much events have of what.
use Rattle.std.specs.Prelude.{◌≡◌, ◌<◌, ℕ, zero, suc, ◌+◌, ◌-◌, Bool, true, false, List, [], ◌∷◌, Option, Some, None, count_by, length, slice_get, slice_index_or, slice_set}
use Rattle.std.specs.List.{range_with_len}
use Rattle.bench_history.specs.History.{frames_in, is_doubtful, replies_in}
use Rattle.bench_history.specs.declared.event.Event.{Event}
use Rattle.bench_history.specs.declared.event.Event.TheVariants.{Sent, Entered, Left, Strayed, Dropped, Lost}
use Rattle.bench_history.specs.declared.extent.Extent.TheVariants.{Front}
use Rattle.bench_sight.specs.Sight.{is_enough}
use Rattle.bench_answers.specs.Ground.{Ground}
use Rattle.bench_answers.specs.Asked.{base, requests_of}
use Rattle.bench_judge.specs.declared.frame.Frame.{Frame}
use Rattle.bench_judge.specs.declared.judgement.Counts.{Counts}

-- whether enough is known of the frame of a number to judge it
abbrev pub is_known : List Event → ℕ → Bool
is_known [] n = false
is_known (Entered port extent bytes ∷ rest) zero = is_enough extent bytes
is_known (Entered port extent bytes ∷ rest) (suc n) = is_known rest n
is_known (event ∷ rest) n = is_known rest n

abbrev pub is_message : Event → Bool
is_message (Sent message) = true
is_message _ = false

abbrev pub is_stray : Event → Bool
is_stray (Strayed gem extent frame) = true
is_stray _ = false

-- whether a frame is sent of which only a front is known
abbrev pub is_cut : Event → Bool
is_cut (Entered port Front frame) = true
is_cut _ = false

-- whether a frame leaves, is dropped, or is lost, of the numbers that are known
abbrev pub is_left : (ℕ → Bool) → Event → Bool
is_left known (Left gem extent number frame) = known number
is_left known _ = false

abbrev pub is_dropped : (ℕ → Bool) → Event → Bool
is_dropped known (Dropped number) = known number
is_dropped known _ = false

abbrev pub is_lost : (ℕ → Bool) → Event → Bool
is_lost known (Lost number) = known number
is_lost known _ = false

-- how many frames are doubtful
abbrev pub doubtful_in : List Event → ℕ
doubtful_in events = count_by (λ n. is_doubtful n events) (range_with_len 0 (frames_in events))

-- how much events have of what; the requests before the first event aren't counted, and all other frames are open, those too of which too
-- little is known
pub record AreCounts (grounds : Ground) (events : List Event) (counts : Counts) : Type 0 where
  pub messages : counts.messages ≡ count_by is_message events
  pub accepted : counts.accepted ≡ length (requests_of grounds events) - base grounds
  pub replies : counts.replies ≡ replies_in events
  pub forwarded : counts.forwarded ≡ count_by (is_left (is_known events)) events
  pub dropped : counts.dropped ≡ count_by (is_dropped (is_known events)) events
  pub lost : counts.lost ≡ count_by (is_lost (is_known events)) events
  pub others : counts.«open» ≡ frames_in events - (counts.forwarded + counts.dropped + counts.lost)
  pub doubtful : counts.doubtful ≡ doubtful_in events
  pub strays : counts.strays ≡ count_by is_stray events
  pub cut : counts.cut ≡ count_by is_cut events

-- ---- by frames as they are kept

abbrev pub is_enough_of : Option Frame → Bool
is_enough_of (Some frame) = frame.is_enough
is_enough_of None = false

abbrev pub is_known_in : List Frame → ℕ → Bool
is_known_in frames n = is_enough_of (slice_get frames n)

-- there is a mark for each of so many frames, by their numbers: whether it is doubtful
pub record AreMarks (events : List Event) (frames : ℕ) (marks : List Bool) : Type 0 where
  pub count : length marks ≡ frames
  pub each : (n : ℕ) → n < frames → slice_index_or marks n false ≡ is_doubtful n events

-- marks, of which those of some numbers are set
abbrev pub marked : List ℕ → List Bool → List Bool
marked [] marks = marks
marked (n ∷ rest) marks = marked rest (slice_set marks n true)

-- frames say of each number what events say
abbrev pub AreKnown : List Event → List Frame → Type 0
AreKnown events frames = (n : ℕ) → is_known_in frames n ≡ is_known events n
