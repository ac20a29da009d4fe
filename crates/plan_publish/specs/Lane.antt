-- What a lane knows.
use Rattle.std.specs.Prelude.{◌≡◌, ◌≢◌, ℕ, List, [], ◌∷◌, Option, Some, option_map}
use Rattle.left_right.specs.Sides.{view}
use Rattle.omci_msg.specs.declared.Request.{Request}
use Rattle.plan_publish.specs.declared.rule.View.{View}
use Rattle.plan_publish.specs.declared.lane.Lane.{Lane}
use Rattle.plan_publish.specs.History.{Home}
use Rattle.plan_publish.specs.Requests.{StartsWith, StartsWithEach, version_of}

-- how many lanes there can be
abbrev pub most_lanes : ℕ
most_lanes = 16

abbrev pub number_of : Lane → ℕ
number_of l = l.number

-- what a lane that is out knows
abbrev pub known_by : Lane → Option View
known_by l = option_map (λ r. view r.place) l.reader

-- the lists that a lane that is out held, the last one first
abbrev pub held_by : Lane → Option (List (List Request))
held_by l = option_map (λ (v : View). v.held) (known_by l)

-- the longest list that a lane learnt, which begins with all that it learnt before
abbrev pub learnt_by : Lane → List Request
learnt_by l = l.learnt.seen.log

-- all that the lane held begins these requests
abbrev pub HeldPrefixes : List Request → Lane → Type 0
HeldPrefixes accepted l = (held : List (List Request)) → held_by l ≡ Some held → StartsWithEach accepted held

-- the lane has held one list more, which begins with each list that it held before and with what it has learnt
pub record HasEntered (before after : Lane) : Type 0 where
  pub now : List Request
  pub lists : List (List Request)
  pub held_before : held_by before ≡ Some lists
  pub held_after : held_by after ≡ Some (now ∷ lists)
  pub begins_held : StartsWithEach now lists
  pub begins_learnt : StartsWith now (learnt_by after)

-- it has held just this version
pub record HasHeld (before after : Lane) (version : ℕ) : Type 0 where
  pub entered : HasEntered before after
  pub version_is : version ≡ version_of entered.now

-- it has held one list more, of another number than that of these requests
pub record HasEnteredOther (requests : List Request) (before after : Lane) : Type 0 where
  pub entered : HasEntered before after
  pub other : version_of entered.now ≢ version_of requests

-- which history it is of
abbrev pub home_of : Lane → Home
home_of l = l.learnt.seen.book

-- a lane that is out, with this number, and has held and learnt nothing
pub record IsNew (l : Lane) (number : ℕ) (home : Home) : Type 0 where
  pub number_is : number_of l ≡ number
  pub held : held_by l ≡ Some []
  pub learnt : learnt_by l ≡ []
  pub home_is : home_of l ≡ home

-- the same lane, which has learnt nothing more
pub record IsSameLane (before after : Lane) : Type 0 where
  pub number_is : number_of after ≡ number_of before
  pub learnt : learnt_by after ≡ learnt_by before
  pub home_is : home_of after ≡ home_of before

-- the lane as it was
pub record IsUnchanged (before after : Lane) : Type 0 where
  pub same : IsSameLane before after
  pub held : held_by after ≡ held_by before
