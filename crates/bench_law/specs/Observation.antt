-- What an observer with one clock can see at a right unit. A step is named by its place, and the steps before it are those up to there. A
-- line has a number too: how many lines are shown before it. The machine carries out the requests of the script first, if there is one, and
-- then those that lines send, without repeats where these are meant. Requests that want an answer are numbered from 0, those of the script
-- and those of the lines each by themselves.
use Rattle.std.specs.Prelude.{◌≡◌, ◌≢◌, ◌<◌, ◌≤◌, ◌+◌, ◌⊎◌, ℕ, Bool, true, false, List, ◌++◌, None, Some, Contains, count_by, length, slice_get, take}
use Rattle.std.specs.Io.{StartsWith}
use Rattle.omci_msg.specs.declared.request.Request.{Request}
use Rattle.omci_msg.specs.declared.reply.Reply.{Reply}
use Rattle.frame_meaning.specs.declared.verdict.Verdict.{Verdict}
use Rattle.plan_publish.specs.World.{IsRun, opening, world_after, answer, Message, Publish, Enter, Forward, Replied as Answered, Gave, Decided}
use Rattle.plan_publish.specs.Interleavings.{tokens_to}
use Rattle.bench_history.specs.Among.{OneOf}
use Rattle.bench_history.specs.History.{frames_in, replies_in}
use Rattle.bench_history.specs.declared.gem.SeenGem.{SeenGem}
use Rattle.bench_history.specs.declared.event.Event.{Event}
use Rattle.bench_history.specs.declared.event.Event.TheVariants.{Replied, Excused, Entered, Left, LeftOneOf, Strayed, Waited}
use Rattle.bench_history.specs.declared.extent.Extent.{Extent}
use Rattle.bench_history.specs.declared.extent.Extent.TheVariants.{Whole, Front}
use Rattle.bench_sight.specs.Sight.{IsSeenAs, is_enough}
use Rattle.bench_reply.specs.Replies.{IsReplyTo, Wanted}
use Rattle.bench_answers.specs.Ground.{Ground}
use Rattle.bench_answers.specs.Asked.{asked, base, last_sent, repeats_of, wanted}
use Rattle.bench_answers.specs.Standing.{is_repeat_of, reached, reached_by, start_reached}
use Rattle.bench_answers.specs.declared.standing.Standing.{Standing}
use Rattle.bench_answers.specs.declared.standing.Standing.TheVariants.{Answers, Repeats, OfStart, Absent}
use Rattle.bench_judge.specs.Explained.{EndedFrame, IsEnded}
use Rattle.bench_judge.specs.Terms.{Terms, ground_in}
use Rattle.bench_law.specs.Steps.{Step, Happens, Shows, happened, shown, carried, wanting, answered_in}

-- ---- replies

-- bytes are spelled as the machine's answer to a request that wants one: steps before them carry it out
pub record IsAnswer (modelled : Bool) (before : List Step) (bytes : List ℕ) : Type 0 where
  pub place : ℕ
  pub request : Request
  pub reply : Reply
  pub carried_out : slice_get before place ≡ Some (Happens (Message request))
  pub wants_answer : request.wants_answer ≡ true
  pub answered : answer (world_after (happened (take place before))) (Message request) ≡ Answered reply
  pub spelled : IsReplyTo modelled (record { request = request; reply = reply }) bytes

-- the next answer: that to the first request of the lines that wants one and that none of the replies before answers
pub record IsNextAnswer (grounds : Ground) (before : List Step) (seen : List Standing) (k : ℕ) (bytes : List ℕ) : Type 0 where
  pub is : IsAnswer grounds.modelled before bytes
  pub number : answered_in (take is.place before) ≡ wanting grounds.start + k
  pub next : reached seen ≡ k

-- the last answer once more, from memory: more repeats of its request stand above than such answers, and no request that waits has its
-- identifier
pub record IsLastAnswer (grounds : Ground) (before : List Step) (seen : List Standing) (k : ℕ) (bytes : List ℕ) : Type 0 where
  pub is : IsAnswer grounds.modelled before bytes
  pub number : answered_in (take is.place before) ≡ wanting grounds.start + k
  pub last : reached seen ≡ k + 1
  pub repeated : count_by (is_repeat_of k) seen < repeats_of grounds (shown before) k
  pub alone : (n : ℕ) (w : Wanted) → k < n → slice_get (wanted grounds (shown before)) n ≡ Some w → w.reply.tci ≢ is.reply.tci

-- a late answer: that to a request of the script. No line above sends a message, and the replies before answer earlier requests
pub record IsLateAnswer (grounds : Ground) (before : List Step) (seen : List Standing) (j : ℕ) (bytes : List ℕ) : Type 0 where
  pub is : IsAnswer grounds.modelled before bytes
  pub number : answered_in (take is.place before) ≡ j
  pub of_start : j < wanting grounds.start
  pub behind : start_reached seen ≤ j
  pub unsent : last_sent (shown before) ≡ None

-- bytes stand for one of these, where the replies before stand for those
abbrev pub StandsFor : Ground → List Step → List Standing → List ℕ → Standing → Type 0
StandsFor grounds before seen bytes (Answers k) = IsNextAnswer grounds before seen k bytes
StandsFor grounds before seen bytes (Repeats k) = IsLastAnswer grounds before seen k bytes
StandsFor grounds before seen bytes (OfStart j) = IsLateAnswer grounds before seen j bytes
StandsFor grounds before seen bytes Absent = ⊥

-- what the replies that steps show stand for, by a list of what all replies stand for, in order
abbrev pub seen_in : List Standing → List Step → List Standing
seen_in means before = take (replies_in (shown before)) means

-- bytes that are seen behind steps stand for what the list says of them
pub record IsReply (grounds : Ground) (means : List Standing) (before : List Step) (bytes : List ℕ) : Type 0 where
  pub standing : Standing
  pub listed : slice_get means (replies_in (shown before)) ≡ Some standing
  pub stands : StandsFor grounds before (seen_in means before) bytes standing

-- ---- waits

-- for how many requests of the lines that want an answer a line waits: those that so many replies answer, or all so far
abbrev pub awaits : List Standing → Event → ℕ
awaits seen (Waited replies) = reached_by replies seen
awaits seen line = 0

-- a lane was told the token of the publish at a place
pub record WasTold (before : List Step) (publish lane : ℕ) : Type 0 where
  pub token : ℕ
  pub gave : answer (world_after (happened (take publish before))) Publish ≡ Gave token
  pub told : Contains (tokens_to lane (happened before)) token

-- a lane has entered since the publish at a place
pub record HasEntered (before : List Step) (publish lane : ℕ) : Type 0 where
  pub place : ℕ
  pub since : publish < place
  pub enters : slice_get before place ≡ Some (Happens (Enter lane))

-- a lane has learnt of a publish that came behind the script, and behind so many requests of the lines that want an answer
pub record HasLearnt (script : List Request) (before : List Step) (count lane : ℕ) : Type 0 where
  pub place : ℕ
  pub publishes : slice_get before place ≡ Some (Happens Publish)
  pub begun : length script ≤ length (carried (take place before))
  pub carried_out : wanting script + count ≤ answered_in (take place before)
  pub learnt : WasTold before place lane ⊎ HasEntered before place lane

-- ---- frames

-- what is known of a frame: all of it, or a front, and it has more
abbrev pub IsKnownAs : Extent → List ℕ → List ℕ → Type 0
IsKnownAs Whole known bytes = known ≡ bytes
IsKnownAs Front known bytes = StartsWith bytes known × (length known < length bytes)

-- by the step at a place a lane forwards a frame that is seen to end: behind the line that sent it and before the line of its end. What is
-- known of the frame is all of its bytes or a front, and what was seen of it is what the machine decided of all of them
pub record IsForwarded (padded : Bool) (steps : List Step) (f : EndedFrame) (lane place : ℕ) : Type 0 where
  pub bytes : List ℕ
  pub verdict : Verdict
  pub forwards : slice_get steps place ≡ Some (Happens (Forward lane f.port bytes))
  pub sent : f.sent < length (shown (take place steps))
  pub ended : length (shown (take place steps)) ≤ f.ended
  pub known : IsKnownAs f.extent f.bytes bytes
  pub decided : answer (world_after (happened (take place steps))) (Forward lane f.port bytes) ≡ Decided verdict
  pub seen : IsSeenAs padded verdict Whole f.seen

-- a frame that the line behind steps names, with that line as its end: as it would be if the line named it alone
pub record IsNamed (before : List Step) (gem : SeenGem) (extent : Extent) (among : OneOf) (f : EndedFrame) : Type 0 where
  pub named : Contains among.numbers f.number
  pub entered : slice_get (shown before) f.sent ≡ Some (Entered f.port f.extent f.bytes)
  pub number : f.number ≡ frames_in (take f.sent (shown before))
  pub ended : f.ended ≡ length (shown before)
  pub seen : f.seen ≡ Left gem extent f.number among.frame

-- one of the frames that the line behind steps names is the one that left: a lane has forwarded it, and this was seen. Of one of which too
-- little is known this isn't asked
pub record IsOneThatLeft (padded : Bool) (before : List Step) (gem : SeenGem) (extent : Extent) (among : OneOf) : Type 0 where
  pub frame : EndedFrame
  pub is_named : IsNamed before gem extent among frame
  pub left : (is_enough frame.extent frame.bytes ≡ false) ⊎ ((lane : ℕ) × (place : ℕ) × IsForwarded padded before frame lane place)

-- ---- the observation

-- steps are an observation of a machine with so many lanes
pub record IsObservation (lanes : ℕ) (terms : Terms) (steps : List Step) : Type 0 where
  -- the machine takes any course that it can
  pub run : IsRun lanes opening (happened steps)
  -- requests are carried out in order: those of the script, and then those of the lines, each behind the line by which it was sent
  pub carried_out : (place : ℕ) (q : Request) → slice_get steps place ≡ Some (Happens (Message q))
      → slice_get (terms.start ++ asked terms.settings.repeats (shown (take place steps))) (length (carried (take place steps))) ≡ Some q
  -- what each reply stands for
  pub means : List Standing
  pub replied : (place : ℕ) (bytes : List ℕ) → slice_get steps place ≡ Some (Shows (Replied bytes))
      → IsReply (ground_in terms) means (take place steps) bytes
  -- no line excuses a reply: the judge alone does, where it goes on behind a deviation
  pub unexcused : (place : ℕ) (bytes : List ℕ) → slice_get steps place ≡ Some (Shows (Excused bytes)) → ⊥
  -- where a line waits for replies, each lane has learnt of what they answer
  pub waited : (place : ℕ) (line : Event) → slice_get steps place ≡ Some (Shows line) → 0 < awaits (seen_in means (take place steps)) line
      → (lane : ℕ) → lane < lanes → HasLearnt terms.start (take place steps) (awaits (seen_in means (take place steps)) line) lane
  -- where a line sends a frame, each lane has learnt of the script, if any of its requests was accepted
  pub begun : (place port : ℕ) (extent : Extent) (frame : List ℕ) → slice_get steps place ≡ Some (Shows (Entered port extent frame))
      → 0 < base (ground_in terms) → (lane : ℕ) → lane < lanes → HasLearnt terms.start (take place steps) 0 lane
  -- strays are seen only where they are allowed
  pub strays : (place : ℕ) (gem : SeenGem) (extent : Extent) (frame : List ℕ)
      → slice_get steps place ≡ Some (Shows (Strayed gem extent frame)) → terms.settings.strays ≡ true
  -- a line that names several frames names the one that left
  pub doubted : (place : ℕ) (gem : SeenGem) (extent : Extent) (among : OneOf) → slice_get steps place ≡ Some (Shows (LeftOneOf gem extent among))
      → IsOneThatLeft terms.settings.padded (take place steps) gem extent among
  -- which lane forwards a frame whose end names it alone, and by which step, by the frame's number
  pub lane_of : ℕ → ℕ
  pub place_of : ℕ → ℕ
  pub forwarded : (f : EndedFrame) → IsEnded (shown steps) f → IsForwarded terms.settings.padded steps f (lane_of f.number) (place_of f.number)
  -- where order counts, one lane serves a port, and forwards its frames in the order in which they entered
  pub in_order : terms.settings.unordered ≡ false → (f g : EndedFrame) → IsEnded (shown steps) f → IsEnded (shown steps) g
      → f.port ≡ g.port → f.number < g.number → (lane_of f.number ≡ lane_of g.number) × (place_of f.number < place_of g.number)
