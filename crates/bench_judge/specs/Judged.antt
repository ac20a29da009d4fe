-- What a judgement says of a history.
use Rattle.std.specs.Prelude.{◌≡◌, ◌<◌, ◌≤◌, ◌+◌, ◌-◌, ℕ, Bool, true, false, List, [], ◌∷◌, Option, Some, None, Ok, Err, drop, length, map, max, min, slice_get, take}
use Rattle.tag_view.specs.Frame.{frame_bytes, spelled}
use Rattle.omci_msg.specs.declared.request.Request.{Request}
use Rattle.frame_meaning.specs.Meaning.{meaning}
use Rattle.frame_meaning.specs.declared.verdict.Verdict.{Verdict}
use Rattle.frame_meaning.specs.declared.verdict.Verdict.TheVariants.{Forward, Drop}
use Rattle.bench_history.specs.History.{history_of, is_ended}
use Rattle.bench_history.specs.Among.{OneOf}
use Rattle.bench_history.specs.declared.event.Event.{Event}
use Rattle.bench_history.specs.declared.event.Event.TheVariants as event
use Rattle.bench_reply.specs.Replies.{Wanted}
use Rattle.bench_answers.specs.Ground.{Ground}
use Rattle.bench_answers.specs.Asked.{base, version, wanted}
use Rattle.bench_answers.specs.Right.{IsRight, IsSentAt, next_of}
use Rattle.bench_answers.specs.Windows.{least_behind, most_behind}
use Rattle.bench_judge.specs.Terms.{Terms, ground_in}
use Rattle.bench_judge.specs.Counted.{AreCounts}
use Rattle.bench_judge.specs.Doubt.{IsOneOf, IsSent}
use Rattle.bench_judge.specs.Evidence.{IsEvidence}
use Rattle.bench_judge.specs.Explained.{EndedFrame, IsChoice, IsEnded, IsExplained, IsLeastChoice}
use Rattle.bench_judge.specs.declared.fault.JudgeFault.{JudgeFault}
use Rattle.bench_judge.specs.declared.fault.JudgeFault.TheVariants.{BadLine, NoMemory}
use Rattle.bench_judge.specs.declared.settings.JudgeSettings.{JudgeSettings}
use Rattle.bench_judge.specs.declared.judgement.Judgement.{Judgement}
use Rattle.bench_judge.specs.declared.judgement.Judgement.TheVariants.{Explained, Deviates}
use Rattle.bench_judge.specs.declared.judgement.Explanation.{Explanation}
use Rattle.bench_judge.specs.declared.judgement.Step.{Step}
use Rattle.bench_judge.specs.declared.judgement.Deviation.{Deviation}
use Rattle.bench_judge.specs.declared.judgement.Wrong.{Wrong}
use Rattle.bench_judge.specs.declared.judgement.Wrong.TheVariants as wrong
use Rattle.bench_judge.specs.declared.judgement.WrongReply.{WrongReply}
use Rattle.bench_judge.specs.declared.judgement.WrongFrame.{WrongFrame}
use Rattle.bench_judge.specs.declared.judgement.WrongOneOf.{WrongOneOf}
use Rattle.bench_judge.specs.declared.judgement.Candidate.{Candidate}
use Rattle.bench_judge.specs.declared.judgement.End.{End}
use Rattle.bench_judge.specs.declared.judgement.End.TheVariants as end
use Rattle.bench_judge.specs.declared.judgement.Run.{Run}
use Rattle.bench_judge.specs.declared.judgement.Answer.{Answer}
use Rattle.bench_judge.specs.declared.judgement.Answer.TheVariants as answer
use Rattle.bench_judge.specs.declared.judgement.Leaving.{Leaving}

-- the numbers of the faults
abbrev pub number_of_fault : JudgeFault → ℕ
number_of_fault (BadLine n) = 1
number_of_fault NoMemory = 2

-- why a history isn't judged
abbrev pub IsWhyUnjudged : List ℕ → JudgeFault → Type 0
IsWhyUnjudged text (BadLine n) = history_of text ≡ Err n
IsWhyUnjudged text NoMemory = Unit {0}

-- ---- explained

-- a frame's version is greater than that of each before it at its port, and than 0
pub record IsRise (events : List Event) (versions : ℕ → ℕ) (f : EndedFrame) : Type 0 where
  pub ended : IsEnded events f
  pub some : 0 < versions f.number
  pub over : (g : EndedFrame) → IsEnded events g → g.port ≡ f.port → g.number < f.number → versions g.number < versions f.number

-- a step says so of a frame
pub record IsStep (events : List Event) (versions : ℕ → ℕ) (step : Step) : Type 0 where
  pub f : EndedFrame
  pub rises : IsRise events versions f
  pub port : step.port ≡ f.port
  pub version : step.version ≡ versions f.number
  pub frame : step.frame ≡ f.number
  pub line : step.line ≡ f.sent + 1

-- the steps are all of them, in the order of frames
pub record AreSteps (events : List Event) (versions : ℕ → ℕ) (steps : List Step) : Type 0 where
  pub each : (k : ℕ) (step : Step) → slice_get steps k ≡ Some step → IsStep events versions step
  pub all : (f : EndedFrame) → IsRise events versions f → (k : ℕ) × (step : Step) × (slice_get steps k ≡ Some step) × (step.frame ≡ f.number)
  pub ascend : (j k : ℕ) (one other : Step) → slice_get steps j ≡ Some one → slice_get steps k ≡ Some other → j < k → one.frame < other.frame

-- the steps of the least versions; the requests before the first line aren't counted
pub record AreLeastSteps (grounds : Ground) (padded unordered : Bool) (events : List Event) (given : List Step) : Type 0 where
  pub versions : ℕ → ℕ
  pub least : IsLeastChoice grounds padded unordered events versions
  pub steps : AreSteps events (λ n. versions n - base grounds) given

-- what is said of explained events: the steps are those of the least versions, and none where each frame is judged by itself
pub record IsExplanation (terms : Terms) (events : List Event) (e : Explanation) : Type 0 where
  pub explained : IsExplained terms events
  pub counts : AreCounts (ground_in terms) events e.counts
  pub finished : e.finished ≡ is_ended events
  pub evidence : IsEvidence (ground_in terms) events e.evidence
  pub unordered : terms.settings.unordered ≡ true → e.steps.items ≡ []
  pub steps : terms.settings.unordered ≡ false → AreLeastSteps (ground_in terms) terms.settings.padded terms.settings.unordered events e.steps.items

-- ---- not explained

-- the events before a place are explained, and with the one there they aren't
pub record IsFirstUnexplained (terms : Terms) (events : List Event) (place : ℕ) : Type 0 where
  pub within : place < length events
  pub before : IsExplained terms (take place events)
  pub behind : ¬ (IsExplained terms (take (place + 1) events))

-- a wrong reply, and the request that it was to answer
pub record IsWrongReply (grounds : Ground) (before : List Event) (here : Option Event) (r : WrongReply) : Type 0 where
  pub seen : here ≡ Some (event.Replied r.reply)
  pub wrong : ¬ (IsRight grounds before r.reply)
  pub answers : Wanted
  pub sent : ℕ
  pub line : r.request_line ≡ sent + 1
  pub next : IsSentAt grounds before (next_of grounds before) sent answers
  pub model : r.model ≡ answers.reply

-- a wrong reply where no request waits for one
pub record IsUnasked (grounds : Ground) (before : List Event) (here : Option Event) (bytes : List ℕ) : Type 0 where
  pub seen : here ≡ Some (event.Replied bytes)
  pub wrong : ¬ (IsRight grounds before bytes)
  pub none : slice_get (wanted grounds before) (next_of grounds before) ≡ None

-- ---- the versions that are left to a frame

-- the least version that an ended frame has in any choice
pub record IsLeastVersion (grounds : Ground) (padded unordered : Bool) (events : List Event) (g : EndedFrame) (v : ℕ) : Type 0 where
  pub versions : ℕ → ℕ
  pub choice : IsChoice grounds padded unordered events versions
  pub has : versions g.number ≡ v
  pub least : (other : ℕ → ℕ) → IsChoice grounds padded unordered events other → v ≤ other g.number

-- the greatest
pub record IsGreatestVersion (grounds : Ground) (padded unordered : Bool) (events : List Event) (g : EndedFrame) (v : ℕ) : Type 0 where
  pub versions : ℕ → ℕ
  pub choice : IsChoice grounds padded unordered events versions
  pub has : versions g.number ≡ v
  pub greatest : (other : ℕ → ℕ) → IsChoice grounds padded unordered events other → other g.number ≤ v

-- the ended frame before another at its port: none stands between
pub record IsLastBefore (events : List Event) (f g : EndedFrame) : Type 0 where
  pub ended : IsEnded events g
  pub port : g.port ≡ f.port
  pub before : g.number < f.number
  pub last : (h : EndedFrame) → IsEnded events h → h.port ≡ f.port → h.number < f.number → h.number ≤ g.number

-- the one behind it
pub record IsFirstBehind (events : List Event) (f g : EndedFrame) : Type 0 where
  pub ended : IsEnded events g
  pub port : g.port ≡ f.port
  pub behind : f.number < g.number
  pub first : (h : EndedFrame) → IsEnded events h → h.port ≡ f.port → f.number < h.number → g.number ≤ h.number

-- the least version that events leave to a frame whose window begins at one: no less than the least of the frame before it
pub record IsAtLeast (grounds : Ground) (padded unordered : Bool) (events : List Event) (f : EndedFrame) (least bound : ℕ) : Type 0 where
  pub alone : unordered ≡ true → bound ≡ least
  pub behind : unordered ≡ false → (g : EndedFrame) → IsLastBefore events f g
      → (v : ℕ) × IsLeastVersion grounds padded unordered events g v × (bound ≡ max least v)
  pub first : unordered ≡ false → ((g : EndedFrame) → ¬ (IsLastBefore events f g)) → bound ≡ least

-- the greatest: no greater than the greatest of the frame behind it
pub record IsAtMost (grounds : Ground) (padded unordered : Bool) (events : List Event) (f : EndedFrame) (most bound : ℕ) : Type 0 where
  pub alone : unordered ≡ true → bound ≡ most
  pub before : unordered ≡ false → (g : EndedFrame) → IsFirstBehind events f g
      → (v : ℕ) × IsGreatestVersion grounds padded unordered events g v × (bound ≡ min most v)
  pub last : unordered ≡ false → ((g : EndedFrame) → ¬ (IsFirstBehind events f g)) → bound ≡ most

-- ---- runs of versions

-- a frame as it leaves, of the bytes that were sent
abbrev pub left_bytes : List ℕ → Leaving → List ℕ
left_bytes sent l = spelled (take 12 sent) l.tags.items (drop (length sent - l.rest) sent)

-- an answer is a verdict on a frame
abbrev pub IsAnswer : Verdict → List ℕ → Answer → Type 0
IsAnswer (Forward gem frame) sent (answer.Left l) = (gem ≡ l.gem) × (frame_bytes frame ≡ left_bytes sent l)
IsAnswer (Forward gem frame) sent (answer.Dropped reason) = ⊥
IsAnswer (Drop reason) sent (answer.Left l) = ⊥
IsAnswer (Drop reason) sent (answer.Dropped given) = reason ≡ given

-- two answers are the same: the same GEM port and bytes, or the same reason
abbrev pub AreSameAnswers : List ℕ → Answer → Answer → Type 0
AreSameAnswers sent (answer.Left l) (answer.Left m) = (l.gem ≡ m.gem) × (left_bytes sent l ≡ left_bytes sent m)
AreSameAnswers sent (answer.Left l) (answer.Dropped reason) = ⊥
AreSameAnswers sent (answer.Dropped reason) (answer.Left m) = ⊥
AreSameAnswers sent (answer.Dropped reason) (answer.Dropped other) = reason ≡ other

-- each version of a run has its answer, of the verdicts on a frame by version
abbrev pub IsRun : (ℕ → Verdict) → List ℕ → Run → Type 0
IsRun verdicts sent run = (v : ℕ) → run.from ≤ v → v ≤ run.to → IsAnswer (verdicts v) sent run.answer

-- the run behind one has another answer
abbrev pub Differs : List ℕ → Run → List Run → Type 0
Differs sent run [] = Unit {0}
Differs sent run (other ∷ rest) = ¬ (AreSameAnswers sent run.answer other.answer)

-- runs one behind the other, from a version up to before another
abbrev pub AreRunsUpTo : (ℕ → Verdict) → List ℕ → ℕ → ℕ → List Run → Type 0
AreRunsUpTo verdicts sent from next [] = from ≡ next
AreRunsUpTo verdicts sent from next (run ∷ rest) =
    (run.from ≡ from) × (from ≤ run.to) × IsRun verdicts sent run × Differs sent run rest × AreRunsUpTo verdicts sent (run.to + 1) next rest

-- runs of the versions from one to another; where the first is over the second, there is none
pub record AreRuns (verdicts : ℕ → Verdict) (sent : List ℕ) (from to : ℕ) (runs : List Run) : Type 0 where
  pub none : to < from → runs ≡ []
  pub some : from ≤ to → AreRunsUpTo verdicts sent from (to + 1) runs

-- how a frame was seen to end
abbrev pub IsEndAs : Event → End → Type 0
IsEndAs (event.Left gem extent number bytes) (end.Left seen seen_extent frame) = (gem ≡ seen) × (extent ≡ seen_extent) × (bytes ≡ frame)
IsEndAs (event.Dropped number) end.Dropped = Unit {0}
IsEndAs (event.Lost number) end.Lost = Unit {0}
IsEndAs event end = ⊥

-- what is said of the frame that ends at a place: the versions that the events before leave to it, and their answers; the requests before
-- the first line aren't counted
pub record IsWrongFrame (terms : Terms) (events : List Event) (place : ℕ) (w : WrongFrame) : Type 0 where
  pub f : EndedFrame
  pub is : IsEnded events f
  pub ended : f.ended ≡ place
  pub number : w.number ≡ f.number
  pub port : w.port ≡ f.port
  pub line : w.sent_line ≡ f.sent + 1
  pub extent : w.extent ≡ f.extent
  pub sent : w.sent ≡ f.bytes
  pub seen : IsEndAs f.seen w.seen
  pub least : ℕ
  pub is_least : IsAtLeast (ground_in terms) terms.settings.padded terms.settings.unordered (take place events) f (least_behind (ground_in terms) (take f.sent events)) least
  pub at_least : w.at_least ≡ least - base (ground_in terms)
  pub most : ℕ
  pub is_most : IsAtMost (ground_in terms) terms.settings.padded terms.settings.unordered (take place events) f (most_behind (ground_in terms) (take place events)) most
  pub at_most : w.at_most ≡ most - base (ground_in terms)
  pub runs : AreRuns (λ v. meaning (version (ground_in terms) events (base (ground_in terms) + v)) f.port f.bytes) f.bytes w.at_least w.at_most w.runs.items

-- what is said of a frame that one that left behind these events may be: the versions of its window, and their answers
pub record IsCandidate (grounds : Ground) (events : List Event) (c : Candidate) : Type 0 where
  pub is : IsSent events c.number
  pub port : c.port ≡ is.port
  pub line : c.sent_line ≡ is.place + 1
  pub extent : c.extent ≡ is.extent
  pub sent : c.sent ≡ is.bytes
  pub at_least : c.at_least ≡ least_behind grounds (take is.place events) - base grounds
  pub at_most : c.at_most ≡ most_behind grounds events - base grounds
  pub runs : AreRuns (λ v. meaning (version grounds events (base grounds + v)) is.port is.bytes) is.bytes c.at_least c.at_most c.runs.items

-- what is said of a frame that left as none of those that it may be does: each of these
pub record IsWrongOneOf (grounds : Ground) (padded : Bool) (events : List Event) (place : ℕ) (w : WrongOneOf) : Type 0 where
  pub among : OneOf
  pub seen : slice_get events place ≡ Some (event.LeftOneOf w.gem w.extent among)
  pub frame : w.frame ≡ among.frame
  pub none : ¬ (IsOneOf grounds padded (take place events) w.gem w.extent among)
  pub numbers : map (λ c. c.number) w.candidates.items ≡ among.numbers
  pub each : (k : ℕ) (c : Candidate) → slice_get w.candidates.items k ≡ Some c → IsCandidate grounds (take place events) c

-- what is wrong at a place
abbrev pub IsWrongAt : Terms → List Event → ℕ → Wrong → Type 0
IsWrongAt terms events place (wrong.Unasked reply) = IsUnasked (ground_in terms) (take place events) (slice_get events place) reply
IsWrongAt terms events place (wrong.Reply r) = IsWrongReply (ground_in terms) (take place events) (slice_get events place) r
IsWrongAt terms events place (wrong.Frame w) = IsWrongFrame terms events place w
IsWrongAt terms events place (wrong.Stray gem extent frame) =
    (slice_get events place ≡ Some (event.Strayed gem extent frame)) × (terms.settings.strays ≡ false)
IsWrongAt terms events place (wrong.OneOf w) = IsWrongOneOf (ground_in terms) terms.settings.padded events place w

-- what is said of events that aren't explained: the line of the first that isn't, with those before it, and what is wrong there
pub record IsDeviation (terms : Terms) (events : List Event) (d : Deviation) : Type 0 where
  pub place : ℕ
  pub line : d.line ≡ place + 1
  pub first : IsFirstUnexplained terms events place
  pub wrong : IsWrongAt terms events place d.wrong

-- what is found of events
abbrev pub IsFound : Terms → List Event → Judgement → Type 0
IsFound terms events (Explained e) = IsExplanation terms events e
IsFound terms events (Deviates d) = IsDeviation terms events d

-- what is found of a history, where these requests were carried out before its first line
pub record IsJudgement (settings : JudgeSettings) (start : List Request) (text : List ℕ) (judgement : Judgement) : Type 0 where
  pub events : List Event
  pub read : history_of text ≡ Ok events
  pub found : IsFound (record { settings = settings; start = start }) events judgement
