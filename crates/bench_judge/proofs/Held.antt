-- What is known of versions holds of frames as they are kept.
use Rattle.std.proofs.Common.{◌≡◌, ℕ, ◌<◌, Bool, true, false, cond, List, map, take, Option, None, Some, is_some, nat_lt, slice_get, slice_index, refl, ap, sym, subst, ◌∙◌, arith}
use Rattle.std.proofs.lemmas.Bool.{ltb-true}
use Rattle.std.proofs.lemmas.List.{take-set-le}
use Rattle.omci_msg.specs.declared.request.Request.{Request}
use Rattle.bench_history.specs.declared.event.Event.{Event}
use Rattle.bench_judge.specs.Cut.{end_before, until}
use Rattle.bench_judge.specs.Deviations.{AreWithout, taken_back}
use Rattle.bench_judge.specs.Explained.{IsChoice}
use Rattle.bench_judge.specs.Frames.{IsKeptOf, MayHave}
use Rattle.bench_judge.specs.Known.{AreHeld, IsKnown, known_version, version_before}
use Rattle.bench_judge.specs.Terms.{Terms, ground_in}
use Rattle.bench_judge.specs.Walk.{IsWalk}
use Rattle.bench_judge.specs.declared.frame.Frame.{Frame}
use Rattle.bench_judge.specs.declared.known.Known.{Known}
use Rattle.bench_judge.specs.declared.walk.Walk.{Walk}
use Rattle.bench_judge.proofs.Choices.{BeginWith, may_have}
use Rattle.bench_judge.proofs.Cuts.{kept_end, left_end, made_at, some_is, with_end_is}
use Rattle.bench_judge.proofs.Fronts.{ended_in_front, ended_of_front, version_in_front, version_of_front}
use Rattle.bench_judge.proofs.Raised.{no_events}
use Rattle.bench_judge.proofs.Swept.{begin_shorter}

-- what it says of a frame that a version of it is known
record IsBefore (place : ℕ) (ended : Option ℕ) (one v : ℕ) : Type 0 where
  end : ℕ
  is : ended ≡ Some end
  under : end < place
  same : one ≡ v

before : (place : ℕ) (ended : Option ℕ) (one v : ℕ) → version_before place ended one ≡ Some v → IsBefore place ended one v
before place None one v is = cc is
before place (Some end) one v is =
    elim (nat_lt end place) as (λ b. nat_lt end place ≡ b → cond b (Some one) None ≡ Some v → IsBefore place (Some end) one v) [
      | true ↦ λ under same. record { end = end; is = refl; under = ltb-true end place under; same = some_is one v same }
      | false ↦ λ over bad. absurd (cc bad)
    ] refl is

-- a frame of which a version is known may have it
pub held_at : {padded : Bool} (events : List Event) (requests : List Request) (frames : List Frame) (known : Known) (n version v : ℕ) (frame : Frame)
    → AreHeld padded events requests frames known → slice_get frames n ≡ Some frame → known_version known n frame ≡ Some v → v ≡ version
    → MayHave padded events requests frame version
held_at {padded} events requests frames known n version v frame held at is same = subst (MayHave padded events requests frame) same (held n v frame at is)

-- of frames of which nothing is known each may have what is known
pub nothing_held : {padded : Bool} (events : List Event) (requests : List Request) (frames : List Frame) (known : Known) → known.until ≡ 0
    → AreHeld padded events requests frames known
nothing_held events requests frames known none n v frame at is =
    let b = before known.until frame.ended (slice_index known.versions.items n) v is in
    let under = b.under in
    absurd (omega (arith, under, none))

-- nothing is a choice of no events
pub nothing_known : (terms : Terms) (events : List Event) (known : Known) → known.until ≡ 0 → IsKnown terms events known
nothing_known terms events known none =
    subst (λ (k : ℕ). IsChoice (ground_in terms) terms.settings.padded terms.settings.unordered (take k events) (slice_index known.versions.items)) (sym none)
    (no_events (ground_in terms) terms.settings.padded terms.settings.unordered (slice_index known.versions.items))

module _ (terms : Terms) (events : List Event) (walk : Walk) (walked : IsWalk terms events walk) (known : Known) (choice : IsKnown terms events known) where
  begins : BeginWith (ground_in terms) walk.requests.items (take walk.walked events)
  begins = begin_shorter (ground_in terms) walk.walked walk.walked events walk.requests.items (omega arith) walked.requests

  pub held : AreHeld terms.settings.padded events walk.requests.items walk.frames.items known
  held n v frame at is =
      let b = before known.until frame.ended (slice_index known.versions.items n) v is in
      let o : IsKeptOf (ground_in terms) (take walk.walked events) n frame = walked.frames.only n frame at (ap is_some b.is) in
      let all = ended_of_front walk.walked events o.f o.is in
      let same : o.f.ended ≡ b.end = some_is o.f.ended b.end (sym o.kept.ended ∙ b.is) in
      let under = b.under in
      let lt : o.f.ended < known.until = omega (arith, same, under) in
      let front = ended_in_front known.until events o.f lt all.1 in
      let version = version_of_front (ground_in terms) known.until (slice_index known.versions.items o.f.number) events o.f o.is.later lt (choice.each o.f front) in
      let in_walk = version_in_front (ground_in terms) walk.walked (slice_index known.versions.items o.f.number) events o.f o.is.later all.0 version in
      let may = may_have (ground_in terms) walk.walked events walk.requests.items begins o.f frame (slice_index known.versions.items o.f.number) o.is o.kept in_walk in
      subst (MayHave terms.settings.padded events walk.requests.items frame) (ap (slice_index known.versions.items) o.number ∙ b.same) may

  -- the same of the frames as the events before a place show them
  pub held_until : (place : ℕ) → AreHeld terms.settings.padded events walk.requests.items (map (until place) walk.frames.items) known
  held_until place n v frame at is =
      let from = made_at (until place) walk.frames.items n frame at in
      let old : Frame = from.0 in
      let b = before known.until frame.ended (slice_index known.versions.items n) v is in
      let ended : is_some frame.ended ≡ true = ap is_some b.is in
      let end = left_end place old.ended (sym (with_end_is (end_before place old.ended) old) ∙ ap (λ (x : Frame). is_some x.ended) from.2 ∙ ended) in
      let same : old ≡ frame = sym (kept_end place old end.0 end.1 end.2) ∙ from.2 in
      subst (λ (f : Frame). MayHave terms.settings.padded events walk.requests.items f v) same
      (held n v old from.1 (subst (λ (f : Frame). known_version known n f ≡ Some v) (sym same) is))

-- the events before the line whose claim is taken back stay as they are
pub front_without : (events others : List Event) (place until : ℕ) → until ≡ place → AreWithout events place others → take until others ≡ take until events
front_without events others place until here w =
    ap (take until) w.rest ∙ take-set-le until events place (taken_back w.event) (omega (arith, here))

-- what is known stays so where an event behind it is another one
pub known_without : (terms : Terms) (events others : List Event) (known : Known) → take known.until others ≡ take known.until events
    → IsKnown terms events known → IsKnown terms others known
known_without terms events others known same choice =
    subst (λ (front : List Event). IsChoice (ground_in terms) terms.settings.padded terms.settings.unordered front (slice_index known.versions.items)) (sym same) choice
