-- What of a history was judged.
use Rattle.std.specs.Prelude.{◌≡◌, ◌<◌, ◌⊎◌, ℕ, Bool, true, false, ◌&&◌, ◌||◌, List, Some, slice_get}
use Rattle.std.specs.List.{list_all}
use Rattle.bench_history.specs.History.{frames_in}
use Rattle.bench_history.specs.Among.{OneOf}
use Rattle.bench_history.specs.declared.event.Event.{Event}
use Rattle.bench_history.specs.declared.event.Event.TheVariants.{LeftOneOf}
use Rattle.bench_history.specs.declared.extent.Extent.{Extent}
use Rattle.bench_history.specs.declared.gem.SeenGem.{SeenGem}
use Rattle.bench_answers.specs.Ground.{Ground}
use Rattle.bench_answers.specs.Standing.{compared}
use Rattle.bench_judge.specs.Counted.{is_known}
use Rattle.bench_judge.specs.Explained.{EndedFrame, IsEnded}
use Rattle.bench_judge.specs.declared.judgement.Evidence.{Evidence}
use Rattle.bench_judge.specs.declared.judgement.Evidence.TheVariants.{Judged, NoFrame, Nothing}
use Rattle.bench_judge.specs.declared.judgement.Explanation.{Explanation}

-- a frame that has ended was judged
abbrev pub HasJudgedEnd : List Event → Type 0
HasJudgedEnd events = (f : EndedFrame) × IsEnded events f

-- an event says of several frames that one left, and enough is known of each
pub record IsKnownDoubt (events : List Event) (event : Event) : Type 0 where
  pub gem : SeenGem
  pub extent : Extent
  pub among : OneOf
  pub is : event ≡ LeftOneOf gem extent among
  pub known : list_all (is_known events) among.numbers ≡ true

-- such an event was judged
abbrev pub HasJudgedDoubt : List Event → Type 0
HasJudgedDoubt events = (i : ℕ) × (event : Event) × (slice_get events i ≡ Some event) × IsKnownDoubt events event

-- frames were judged
abbrev pub HasJudged : List Event → Type 0
HasJudged events = HasJudgedEnd events ⊎ HasJudgedDoubt events

-- what of explained events was judged: a frame; or, where none was sent, a reply that was compared
abbrev pub IsEvidence : Ground → List Event → Evidence → Type 0
IsEvidence grounds events Judged = HasJudged events ⊎ ((frames_in events ≡ 0) × (0 < compared grounds events))
IsEvidence grounds events NoFrame = (0 < frames_in events) × ¬ (HasJudged events)
IsEvidence grounds events Nothing = (frames_in events ≡ 0) × (compared grounds events ≡ 0)

abbrev is_judged : Evidence → Bool
is_judged Judged = true
is_judged _ = false

-- whether a unit may be passed by an explanation
abbrev pub passes : Bool → Explanation → Bool
passes may_be_unfinished e = is_judged e.evidence && (e.finished || may_be_unfinished)
