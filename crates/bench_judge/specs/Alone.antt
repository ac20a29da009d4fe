-- Versions for frames that are judged each by itself: the last of a frame's window first, and others only for the frames that are left.
use Rattle.std.specs.Prelude.{◌≡◌, ◌<◌, ◌≤◌, ℕ, Bool, List, Option, Some, None, length, slice_get, take}
use Rattle.omci_msg.specs.declared.request.Request.{Request}
use Rattle.mib_state.specs.After.{after}
use Rattle.bench_history.specs.declared.event.Event.{Event}
use Rattle.bench_judge.specs.Frames.{MayHave}
use Rattle.bench_judge.specs.declared.fitting.Late.{Late}
use Rattle.bench_judge.specs.declared.frame.Frame.{Frame}

-- each frame may have the version that was found for it
abbrev pub AreHad : Bool → List Event → List Request → List Frame → List (Option ℕ) → Type 0
AreHad padded events requests frames found = (n v : ℕ) (frame : Frame) → slice_get found n ≡ Some (Some v) → slice_get frames n ≡ Some frame
    → MayHave padded events requests frame v

-- the way through the versions: the entities are those after so many requests, and what was found may be had
pub record IsLate (padded : Bool) (events : List Event) (requests : List Request) (frames : List Frame) (late : Late) : Type 0 where
  pub within : late.applied ≤ length requests
  pub live : late.live ≡ after (take late.applied requests)
  pub count : length late.found.items ≡ length frames
  pub had : AreHad padded events requests frames late.found.items

-- a frame, open if a version was found for it
abbrev pub left_of : Option ℕ → Frame → Frame
left_of (Some v) frame = record frame { ended = None; most = 0 }
left_of None frame = frame

-- the version that was found, or else another
abbrev pub version_or : Option ℕ → ℕ → ℕ
version_or (Some v) other = v
version_or None other = other

-- what two lists have at each number, joined
pub record AreJoined {A B C : Type 0} (join : A → B → C) (one : List A) (other : List B) (joined : List C) : Type 0 where
  pub each : (n : ℕ) (a : A) (b : B) → n < length joined → slice_get one n ≡ Some a → slice_get other n ≡ Some b
      → slice_get joined n ≡ Some (join a b)
