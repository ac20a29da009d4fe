-- Which of the frames that were sent one that leaves may be.
use Rattle.std.specs.Prelude.{ℕ, zero, suc, ◌+◌, ◌*◌, ◌&&◌, Bool, false, not, List, [], ◌∷◌, Option, Some, None, true, filter, length, min, nat_lt, slice_get}
use Rattle.std.specs.List.{list_any, range_with_len}
use Rattle.bench_history.specs.History.{have_left, is_among}
use Rattle.bench_record.specs.Cores.{Core, cores_agree}

-- a frame that was sent: when, what is known of it, and whether it was seen to leave; and how many hidden frames had left before
pub record SentFrame : Type 0 where
  pub time : ℕ
  pub core : Core
  pub has_left : Bool
  pub hidden_before : ℕ

-- the frames that were sent, by their numbers, and those of which one was seen to leave, by the numbers that name them
pub record Frames : Type 0 where
  pub sent : List SentFrame
  pub named : List (List ℕ)

-- so many milliseconds later, or the greatest time of 64 bits
abbrev pub later : ℕ → ℕ → ℕ
later time milliseconds = min 18446744073709551615 (time + milliseconds * 1000000)

-- whether a frame that was sent at one time is lost before another
abbrev pub is_lost_before : Option ℕ → ℕ → ℕ → Bool
is_lost_before (Some lost) sent time = nat_lt (later sent lost) time
is_lost_before None sent time = false

-- whether a frame is doubtful: one of several may be it
abbrev pub is_doubtful : List (List ℕ) → ℕ → Bool
is_doubtful named n = list_any (λ frames. is_among frames n) named

-- whether it is used up: it must have left, since as many did as there are frames that they may be
abbrev pub is_used_up : List (List ℕ) → ℕ → Bool
is_used_up named n = list_any (λ frames. is_among frames n && have_left frames named) named

-- whether a frame that was sent is open at a time: it wasn't seen to leave, and isn't lost before
abbrev pub is_waiting : Option ℕ → ℕ → Option SentFrame → Bool
is_waiting lost time (Some sent) = not sent.has_left && not (is_lost_before lost sent.time time)
is_waiting lost time None = false

abbrev pub is_open : Option ℕ → ℕ → Frames → ℕ → Bool
is_open lost time frames n = is_waiting lost time (slice_get frames.sent n) && not (is_used_up frames.named n)

-- whether it may be one of this core
abbrev pub has_core : Core → Option SentFrame → Bool
has_core core (Some sent) = cores_agree sent.core core
has_core core None = false

-- the open frames that one of this core may be which leaves at a time, by their numbers
abbrev pub candidates : Option ℕ → ℕ → Core → Frames → List ℕ
candidates lost time core frames =
    filter (λ n. is_open lost time frames n && has_core core (slice_get frames.sent n)) (range_with_len 0 (length frames.sent))

-- the frame of a number has left
abbrev pub leave_at : ℕ → List SentFrame → List SentFrame
leave_at n [] = []
leave_at zero (sent ∷ more) = record sent { has_left = true } ∷ more
leave_at (suc n) (sent ∷ more) = sent ∷ leave_at n more
