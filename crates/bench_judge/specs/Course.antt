-- The course of an explained history: which frames were judged, and the least version of each.
use Rattle.std.specs.Prelude.{◌≡◌, ◌<◌, ◌+◌, ◌-◌, ℕ, true, List, Option, Some, None, Ok, Contains, is_some, length, slice_get, slice_index}
use Rattle.omci_msg.specs.declared.request.Request.{Request}
use Rattle.bench_history.specs.History.{history_of}
use Rattle.bench_history.specs.declared.event.Event.{Event}
use Rattle.bench_history.specs.declared.event.Event.TheVariants.{Entered}
use Rattle.bench_history.specs.declared.extent.Extent.{Extent}
use Rattle.bench_answers.specs.Ground.{Ground}
use Rattle.bench_answers.specs.Asked.{base, requests_of}
use Rattle.bench_judge.specs.Cut.{IsGoodChoice}
use Rattle.bench_judge.specs.Explained.{EndedFrame, IsEnded}
use Rattle.bench_judge.specs.Judged.{IsFound}
use Rattle.bench_judge.specs.Terms.{Terms, ground_in}
use Rattle.bench_judge.specs.Walk.{IsWalk}
use Rattle.bench_judge.specs.declared.course.Course.{Course}
use Rattle.bench_judge.specs.declared.course.JudgedFrame.{JudgedFrame}
use Rattle.bench_judge.specs.declared.following.Followed.{Followed}
use Rattle.bench_judge.specs.declared.frame.Frame.{Frame}
use Rattle.bench_judge.specs.declared.judgement.Judgement.{Judgement}
use Rattle.bench_judge.specs.declared.judgement.Judgement.TheVariants.{Explained, Deviates}
use Rattle.bench_judge.specs.declared.known.Known.{Known}
use Rattle.bench_judge.specs.declared.settings.JudgeSettings.{JudgeSettings}
use Rattle.bench_judge.specs.declared.walk.Walk.{Walk}

-- ---- what is said of judged frames

-- what is said of an ended frame: its port, what is known of it, and its version, where so many requests before the first line aren't counted
pub record IsJudgedAs (start : ℕ) (versions : ℕ → ℕ) (f : EndedFrame) (j : JudgedFrame) : Type 0 where
  pub port : j.port ≡ f.port
  pub frame : j.frame ≡ f.bytes
  pub version : start + j.version ≡ versions f.number

-- it is said of one of these events' ended frames
pub record IsJudgedOf (start : ℕ) (events : List Event) (versions : ℕ → ℕ) (j : JudgedFrame) : Type 0 where
  pub f : EndedFrame
  pub ended : IsEnded events f
  pub is : IsJudgedAs start versions f j

-- and of each of them
pub record AreJudged (start : ℕ) (events : List Event) (versions : ℕ → ℕ) (list : List JudgedFrame) : Type 0 where
  pub each : (j : JudgedFrame) → Contains list j → IsJudgedOf start events versions j
  pub all : (f : EndedFrame) → IsEnded events f → (j : JudgedFrame) × Contains list j × IsJudgedAs start versions f j

-- the course of explained events: the versions are a choice, and where order counts the least
pub record IsCourse (terms : Terms) (events : List Event) (course : Course) : Type 0 where
  pub versions : ℕ → ℕ
  pub choice : IsGoodChoice (ground_in terms) terms.settings.padded terms.settings.unordered events versions
  pub frames : AreJudged (base (ground_in terms)) events versions course.frames.items
  pub requests : course.requests.items ≡ requests_of (ground_in terms) events
  pub base : course.base ≡ base (ground_in terms)

-- beside what is found: there is one where the events are explained
abbrev pub IsCourseBeside : Terms → List Event → Judgement → Option Course → Type 0
IsCourseBeside terms events (Explained e) (Some course) = IsCourse terms events course
IsCourseBeside terms events (Explained e) None = ⊥
IsCourseBeside terms events (Deviates d) (Some course) = ⊥
IsCourseBeside terms events (Deviates d) None = Unit {0}

-- what is found of events, and their course
pub record IsFoundWith (terms : Terms) (events : List Event) (f : Followed) : Type 0 where
  pub found : IsFound terms events f.judgement
  pub course : IsCourseBeside terms events f.judgement f.course

-- what is found of a history with its course, where these requests were carried out before its first line
pub record IsFollowed (settings : JudgeSettings) (start : List Request) (text : List ℕ) (f : Followed) : Type 0 where
  pub events : List Event
  pub read : history_of text ≡ Ok events
  pub found : IsFoundWith (record { settings = settings; start = start }) events f

-- ---- by frames as they are kept

-- what is said of the frame of a number
pub record IsJudgedAt (start : ℕ) (events : List Event) (frames : List Frame) (versions : ℕ → ℕ) (n : ℕ) (j : JudgedFrame) : Type 0 where
  pub frame : Frame
  pub at : slice_get frames n ≡ Some frame
  pub ended : is_some frame.ended ≡ true
  pub extent : Extent
  pub entered : slice_get events frame.sent ≡ Some (Entered frame.port extent j.frame)
  pub port : j.port ≡ frame.port
  pub version : j.version ≡ versions n - start

-- what is said of a frame with this version, by the event that sent it
abbrev pub judged_as : ℕ → ℕ → Option Event → Option JudgedFrame
judged_as port version None = None
judged_as port version (Some (Entered at_port extent bytes)) = Some (record { port = port; frame = bytes; version = version })
judged_as port version (Some event) = None

abbrev pub judged_if : Option ℕ → Option JudgedFrame → Option JudgedFrame
judged_if None judged = None
judged_if (Some end) judged = judged

-- the same where it has ended
abbrev pub judged_by : List Event → Frame → ℕ → Option JudgedFrame
judged_by events frame version = judged_if frame.ended (judged_as frame.port version (slice_get events frame.sent))

-- what is said of those ended frames that have a number under this one
pub record AreJudgedUnder (start : ℕ) (events : List Event) (frames : List Frame) (versions : ℕ → ℕ) (count : ℕ) (list : List JudgedFrame) : Type 0 where
  pub each : (j : JudgedFrame) → Contains list j → (n : ℕ) × (n < count) × IsJudgedAt start events frames versions n j
  pub all : (n : ℕ) (frame : Frame) → n < count → slice_get frames n ≡ Some frame → is_some frame.ended ≡ true
      → (j : JudgedFrame) × Contains list j × IsJudgedAt start events frames versions n j

-- ---- what is kept of explained events

-- the walk through all of them, and their versions
pub record IsKeptWhole (terms : Terms) (events : List Event) (known : Known) (walk : Walk) : Type 0 where
  pub walked : IsWalk terms events walk
  pub whole : walk.walked ≡ length events
  pub choice : IsGoodChoice (ground_in terms) terms.settings.padded terms.settings.unordered events (slice_index known.versions.items)

-- beside what is found: there is a walk where the events are explained
abbrev pub IsKeptBeside : Terms → List Event → Judgement → Known → Option Walk → Type 0
IsKeptBeside terms events (Explained e) known (Some walk) = IsKeptWhole terms events known walk
IsKeptBeside terms events (Explained e) known None = ⊥
IsKeptBeside terms events (Deviates d) known (Some walk) = ⊥
IsKeptBeside terms events (Deviates d) known None = Unit {0}
