-- The control and its lanes as one machine, whose events come in any order.
use Rattle.std.specs.Prelude.{◌≡◌, ℕ, ◌+◌, ◌<◌, ◌==◌, max, List, [], ◌∷◌, ◌++◌, length, fold, Option, Some, None, IsSome, Contains, if◌then◌else◌}
use Rattle.omci_msg.specs.declared.Request.{Request}
use Rattle.omci_msg.specs.declared.Reply.{Reply}
use Rattle.mib_state.specs.Entities.{Entities, nothing}
use Rattle.mib_state.specs.After.{after_from, is_accepted}
use Rattle.mib_upload.specs.Upload.{DeskState, answered, start}
use Rattle.frame_meaning.specs.declared.verdict.Verdict.{Verdict}
use Rattle.frame_meaning.specs.Meaning.{meaning}

-- ---- the world

-- a lane: the greatest number of requests that it has seen, and while it is in, the entities that it holds
pub record LaneState : Type 0 where
  pub seen : ℕ
  pub holds : Option Entities

-- the control's state; the published entities, and the number of requests published; the accepted requests that are pending;
-- the tokens given, which are numbers of requests; and each lane, by its number
pub record World : Type 0 where
  pub desk : DeskState
  pub published : Entities
  pub count : ℕ
  pub pending : List Request
  pub tokens : List ℕ
  pub lane : ℕ → LaneState

-- nothing anywhere
abbrev pub opening : World
opening = record {
  desk = start;
  published = nothing;
  count = 0;
  pending = [];
  tokens = [];
  lane = λ _. record { seen = 0; holds = None };
}

-- the world with another state of a lane
abbrev pub with_lane : World → ℕ → LaneState → World
with_lane w l state = record w { lane = λ k. if l == k then state else w.lane k }

-- ---- the events

pub data Event : Type 0 where
  Message : (request : Request) → Event
  Publish : Event
  Tell : (lane token : ℕ) → Event
  Enter : (lane : ℕ) → Event
  Forward : (lane port : ℕ) (bytes : List ℕ) → Event
  Leave : (lane : ℕ) → Event

-- in a world of so many lanes, a lane is told a token that was given before, while it is out; it enters while it is out, and
-- forwards and leaves while it is in; a message and a publish can come at any time
abbrev pub IsPossible : ℕ → World → Event → Type 0
IsPossible lanes w (Message q) = Unit {0}
IsPossible lanes w Publish = Unit {0}
IsPossible lanes w (Tell l token) = (l < lanes) × ((w.lane l).holds ≡ None) × Contains w.tokens token
IsPossible lanes w (Enter l) = (l < lanes) × ((w.lane l).holds ≡ None)
IsPossible lanes w (Forward l port bytes) = (l < lanes) × IsSome (w.lane l).holds
IsPossible lanes w (Leave l) = (l < lanes) × IsSome (w.lane l).holds

-- the number of all requests published once the pending ones are, which is the token of a publish
abbrev pub token_of : World → ℕ
token_of w = w.count + length w.pending

-- the pending requests after one more, which joins them where it is accepted
abbrev pub joined : World → Request → List Request
joined w q = if is_accepted w.desk.mib.entities q then w.pending ++ q ∷ [] else w.pending

-- the world that an event leaves
abbrev pub happens : World → Event → World
happens w (Message q) = record w { desk = (answered w.desk q).1; pending = joined w q }
happens w Publish =
    record w { published = after_from w.published w.pending; count = token_of w; pending = []; tokens = token_of w ∷ w.tokens }
happens w (Tell l token) = with_lane w l (record (w.lane l) { seen = max (w.lane l).seen token })
happens w (Enter l) = with_lane w l (record { seen = max (w.lane l).seen w.count; holds = Some w.published })
happens w (Forward l port bytes) = w
happens w (Leave l) = with_lane w l (record (w.lane l) { holds = None })

-- ---- the answers

pub data Answer : Type 0 where
  Replied : (reply : Reply) → Answer
  Gave : (token : ℕ) → Answer
  Decided : (verdict : Verdict) → Answer
  Silent : Answer

-- what a lane makes of a frame by the entities that it holds
abbrev pub decided : Option Entities → ℕ → List ℕ → Answer
decided None port bytes = Silent
decided (Some e) port bytes = Decided (meaning e port bytes)

-- what an event is answered
abbrev pub answer : World → Event → Answer
answer w (Message q) = Replied (answered w.desk q).0
answer w Publish = Gave (token_of w)
answer w (Tell l token) = Silent
answer w (Enter l) = Silent
answer w (Forward l port bytes) = decided (w.lane l).holds port bytes
answer w (Leave l) = Silent

-- ---- runs

-- each event is possible where it comes
abbrev pub IsRun : ℕ → World → List Event → Type 0
IsRun lanes w [] = Unit {0}
IsRun lanes w (event ∷ rest) = IsPossible lanes w event × IsRun lanes (happens w event) rest

-- the world after these events, from the opening
abbrev pub world_after : List Event → World
world_after events = fold happens opening events
