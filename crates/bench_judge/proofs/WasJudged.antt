-- What of a history was judged, by its frames as they are kept.
use Rattle.std.proofs.Common.{◌≡◌, ◌<◌, ◌≤◌, ◌+◌, ℕ, zero, suc, Bool, true, false, ◌||◌, List, [], ◌∷◌, length, Some, Decides, is_some, slice_get, inl, inr, refl, ap, sym, subst, ◌∙◌, arith}
use Rattle.std.specs.List.{list_all, list_any}
use Rattle.std.proofs.lemmas.Bool.{cases_lt, true≢false}
use Rattle.std.proofs.lemmas.Option.{same_Some, slice_get_within}
use Rattle.bench_history.specs.Among.{OneOf}
use Rattle.bench_history.specs.History.{doubt_of}
use Rattle.bench_history.specs.declared.event.Event.{Event}
use Rattle.bench_history.specs.declared.event.Event.TheVariants.{LeftOneOf}
use Rattle.bench_history.specs.declared.extent.Extent.{Extent}
use Rattle.bench_history.specs.declared.gem.SeenGem.{SeenGem}
use Rattle.bench_judge.specs.Counted.{AreKnown, is_known, is_known_in}
use Rattle.bench_judge.specs.Evidence.{HasJudged, HasJudgedDoubt, HasJudgedEnd, IsKnownDoubt}
use Rattle.bench_judge.specs.Frames.{AreFrames, IsKeptIn, IsKeptOf}
use Rattle.bench_judge.specs.declared.frame.Frame.{Frame}
use Rattle.bench_judge.proofs.Counted.{known_same}
use Rattle.bench_answers.specs.Ground.{Ground}

-- a frame that has ended
record HasEnded (frames : List Frame) : Type 0 where
  n : ℕ
  frame : Frame
  at : slice_get frames n ≡ Some frame
  ended : is_some frame.ended ≡ true

ended_first : (frame : Frame) (frames : List Frame) (b : Bool) → is_some frame.ended ≡ b → (b || list_any (λ f. is_some f.ended) frames) ≡ true
    → (list_any (λ f. is_some f.ended) frames ≡ true → HasEnded frames) → HasEnded (frame ∷ frames)
ended_first frame frames true is any more = record { n = zero; frame = frame; at = refl; ended = is }
ended_first frame frames false is any more =
    let rest = more any in
    record { n = suc rest.n; frame = rest.frame; at = rest.at; ended = rest.ended }

some_ended : (frames : List Frame) → list_any (λ f. is_some f.ended) frames ≡ true → HasEnded frames
some_ended [] any = cc any
some_ended (frame ∷ frames) any = ended_first frame frames (is_some frame.ended) refl any (some_ended frames)

no_first : (b c : Bool) → (b || c) ≡ false → (b ≡ false) × (c ≡ false)
no_first true c none = cc none
no_first false c none = (refl, none)

none_ended : (frames : List Frame) (n : ℕ) (frame : Frame) → list_any (λ f. is_some f.ended) frames ≡ false → slice_get frames n ≡ Some frame
    → is_some frame.ended ≡ true → ⊥
none_ended [] n frame none at ended = cc at
none_ended (other ∷ frames) zero frame none at ended =
    let same : other ≡ frame = cc at in
    let is : is_some other.ended ≡ true = ap (λ (f : Frame). is_some f.ended) same ∙ ended in
    true≢false (sym is ∙ (no_first (is_some other.ended) (list_any (λ f. is_some f.ended) frames) none).0)
none_ended (other ∷ frames) (suc n) frame none at ended =
    none_ended frames n frame (no_first (is_some other.ended) (list_any (λ f. is_some f.ended) frames) none).1 at ended

pub judged_one : (grounds : Ground) (events : List Event) (frames : List Frame) → list_any (λ f. is_some f.ended) frames ≡ true → AreFrames grounds events frames → HasJudgedEnd events
judged_one grounds events frames any are =
    let one = some_ended frames any in
    let o : IsKeptOf grounds events one.n one.frame = are.only one.n one.frame one.at one.ended in
    (o.f, o.is)

pub judged_none : (grounds : Ground) (events : List Event) (frames : List Frame) → list_any (λ f. is_some f.ended) frames ≡ false → AreFrames grounds events frames → HasJudgedEnd events → ⊥
judged_none grounds events frames none are judged =
    let o : IsKeptIn grounds events frames judged.0 = are.each judged.0 judged.1 in
    none_ended frames judged.0.number o.frame none o.at (ap is_some o.kept.ended)

-- ---- frames of which one left

same_among : (gem other : SeenGem) (x y : Extent) (a b : OneOf) → LeftOneOf gem x a ≡ LeftOneOf other y b → a ≡ b
same_among gem other x y a b is = cc is

-- whether enough is known of each, as frames are kept
pub known_doubt : (events : List Event) (frames : List Frame) (event : Event) (gem : SeenGem) (extent : Extent) (among : OneOf) (result : Bool)
    → event ≡ LeftOneOf gem extent among → result ≡ list_all (is_known_in frames) among.numbers → AreKnown events frames
    → Decides result (IsKnownDoubt events event)
known_doubt events frames event gem extent among result is found known =
    let all : list_all (is_known_in frames) among.numbers ≡ list_all (is_known events) among.numbers =
    ap (λ (k : ℕ → Bool). list_all k among.numbers) (known_same events frames known) in (
      λ yes. record { gem = gem; extent = extent; among = among; is = is; known = sym all ∙ sym found ∙ yes },
      λ doubt.
          let same : among ≡ doubt.among = same_among gem doubt.gem extent doubt.extent among doubt.among (sym is ∙ doubt.is) in
          found ∙ all ∙ ap (λ (o : OneOf). list_all (is_known events) o.numbers) same ∙ doubt.known,
    )

-- another event says nothing of the kind
pub no_doubt : (events : List Event) (event : Event) → doubt_of event ≡ [] → Decides false (IsKnownDoubt events event)
no_doubt events event none = (
  λ yes. cc yes,
  λ doubt. absurd (cc (sym none ∙ ap doubt_of doubt.is)),
)

-- no such event stands before a place
abbrev pub AreNoDoubts : List Event → ℕ → Type 0
AreNoDoubts events place = (i : ℕ) (event : Event) → i < place → slice_get events i ≡ Some event → IsKnownDoubt events event → ⊥

pub no_doubt_here : (events : List Event) (place : ℕ) (event : Event) → slice_get events place ≡ Some event → (IsKnownDoubt events event → ⊥)
    → AreNoDoubts events place → AreNoDoubts events (place + 1)
no_doubt_here events place event at not none i other less here doubt =
    elim (cases_lt i place) [
      | inl above ↦ none i other above here doubt
      | inr not_above ↦
          let same : i ≡ place = omega (arith, less, not_above) in
          let is : other ≡ event = same_Some other event (sym here ∙ ap (slice_get events) same ∙ at) in
          not (subst (IsKnownDoubt events) is doubt)
    ]

pub no_doubt_at_all : (events : List Event) (place : ℕ) → length events ≤ place → AreNoDoubts events place → HasJudgedDoubt events → ⊥
no_doubt_at_all events place whole none judged =
    let less = slice_get_within events judged.0 judged.1 judged.2 in
    none judged.0 judged.1 (omega (arith, less, whole)) judged.2 judged.3

-- ---- a frame was judged

pub judged_by_end : (grounds : Ground) (events : List Event) (frames : List Frame) → list_any (λ f. is_some f.ended) frames ≡ true → AreFrames grounds events frames
    → Decides true (HasJudged events)
judged_by_end grounds events frames any are = (λ yes. inl (judged_one grounds events frames any are), λ judged. refl)

pub judged_by_doubt : (grounds : Ground) (events : List Event) (frames : List Frame) (result : Bool) → list_any (λ f. is_some f.ended) frames ≡ false → AreFrames grounds events frames
    → Decides result (HasJudgedDoubt events) → Decides result (HasJudged events)
judged_by_doubt grounds events frames result none are decides = (
  λ yes. inr (decides.0 yes),
  λ judged. elim judged [ inl end ↦ absurd (judged_none grounds events frames none are end) | inr doubt ↦ decides.1 doubt ],
)
