-- Frames of which one left, by frames as they are kept.
use Rattle.std.proofs.Common.{◌≡◌, ◌<◌, ◌≤◌, ◌+◌, ℕ, Bool, true, List, [], ◌∷◌, ◌++◌, length, take, Option, Some, None, Result, Ok, Err, IfOk, Decides, slice_get, inl, inr, refl, ap, sym, subst, ◌∙◌, arith, take-take}
use Rattle.std.specs.declared.alloc.AllocError.{AllocError}
use Rattle.std.proofs.lemmas.List.{take-append-le}
use Rattle.std.proofs.lemmas.Bool.{true≢false}
use Rattle.omci_msg.specs.declared.request.Request.{Request}
use Rattle.mib_state.specs.Entities.{Entities}
use Rattle.mib_state.specs.After.{after}
use Rattle.frame_meaning.specs.Meaning.{meaning}
use Rattle.bench_history.specs.Among.{OneOf}
use Rattle.bench_history.specs.History.{frames_in}
use Rattle.bench_history.specs.declared.event.Event.{Event}
use Rattle.bench_history.specs.declared.event.Event.TheVariants.{Entered, Left, LeftOneOf}
use Rattle.bench_history.specs.declared.extent.Extent.{Extent}
use Rattle.bench_history.specs.declared.gem.SeenGem.{SeenGem}
use Rattle.bench_sight.specs.Sight.{IsSeenAs, is_enough}
use Rattle.bench_judge.specs.Admitted.{IsAdmitted}
use Rattle.bench_answers.specs.Asked.{requests_of, version}
use Rattle.bench_answers.specs.Windows.{least_behind, most_behind}
use Rattle.bench_judge.specs.Doubt.{IsLatest, IsOneOf, IsSent, IsSomeOf, LeavesBy, LeavesSo, MayBe, MayBeAt}
use Rattle.bench_judge.specs.Terms.{Terms, ground_in}
use Rattle.bench_judge.specs.Scene.{AreFramesOf, IsFrameOf, IsScene}
use Rattle.bench_judge.specs.declared.doubt.Latest.{Latest}
use Rattle.bench_judge.specs.declared.frame.Frame.{Frame}
use Rattle.bench_judge.specs.declared.scene.Scene.{Scene}
use Rattle.bench_judge.proofs.Choices.{entered_as, same_seen}
use Rattle.bench_judge.proofs.Counted.{frames_front, frames_with}
use Rattle.bench_answers.proofs.Fronts.{requests_front}
use Rattle.bench_answers.proofs.Places.{element_at, front_get, get_in_front}
use Rattle.bench_judge.proofs.Whole.{sent_once}
use Rattle.bench_answers.specs.Ground.{Ground}

pub leaves_decides : (padded : Bool) (events : List Event) (frame : Frame) (seen : Event) (e : Entities) (port : ℕ) (extent : Extent) (bytes : List ℕ) (result : Bool)
    → slice_get events frame.sent ≡ Some (Entered port extent bytes)
    → Decides result (IsSeenAs padded (meaning e port bytes) extent seen) → Decides result (LeavesSo padded events frame seen e)
leaves_decides padded events frame seen e port extent bytes result entered decides = (
  λ yes. record { port = port; extent = extent; bytes = bytes; entered = entered; shows = decides.0 yes },
  λ is. let sent = entered_as is.port port is.extent extent is.bytes bytes (sym is.entered ∙ entered) in
      decides.1 (same_seen padded e is.port port is.extent extent is.bytes bytes seen seen sent.0 sent.1 sent.2 refl is.shows),
)

-- the frame of a number, by what is kept of it
pub may_decides : (padded : Bool) (events : List Event) (frames : List Frame) (n : ℕ) (frame : Frame) (seen : Event) (v : ℕ) (e : Entities) (result : Bool)
    → slice_get frames n ≡ Some frame → frame.is_enough ≡ true
    → Decides result ((frame.least ≤ v) × LeavesSo padded events frame seen e) → Decides result (MayBeAt padded events frames n seen v e)
may_decides padded events frames n frame seen v e result at enough decides = (
  λ yes. record { frame = frame; at = at; by = inr (decides.0 yes) },
  λ is. let same : frame ≡ is.frame = some_frame frame is.frame (sym at ∙ is.at) in
      elim is.by [
        | inl short ↦ absurd (true≢false (sym enough ∙ ap (λ (f : Frame). f.is_enough) same ∙ short))
        | inr leaves ↦ decides.1 (subst (λ (f : Frame). (f.least ≤ v) × LeavesSo padded events f seen e) (sym same) leaves)
      ],
)
  where
    some_frame : (a b : Frame) → Some a ≡ Some b → a ≡ b
    some_frame a b is = cc is

-- more requests leave what is kept of the last version
longer : (xs ys : List Request) → length xs ≤ length (xs ++ ys)
longer [] ys = omega arith
longer (x ∷ xs) ys = omega (arith, longer xs ys)

pub latest_grows : (front more : List Request) (latest : Option Latest) → IsLatest front latest → IsLatest (front ++ more) latest
latest_grows front more (Some latest) is =
    let same : take latest.applied (front ++ more) ≡ take latest.applied front = take-append-le latest.applied front more is.0 in
    let more_room = longer front more in
    (omega (arith, is.0, more_room), is.1 ∙ ap after (sym same))
latest_grows front more None is = tt

-- and so does the next event
pub latest_on : (terms : Terms) (events : List Event) (place : ℕ) (old new : Scene) (latest : Option Latest) → IsScene terms events place old → IsScene terms events (place + 1) new
    → IsLatest old.answers.asking.requests.items latest → IsLatest new.answers.asking.requests.items latest
latest_on terms events place old new latest was is kept =
    let grounds : Ground = ground_in terms in
    let front : requests_of grounds (take place (take (place + 1) events)) ≡ old.answers.asking.requests.items =
    ap (requests_of grounds) (take-take place (place + 1) events (omega arith)) ∙ sym was.answers.asking.requests in
    let parts = requests_front grounds place (take (place + 1) events) in
    let all : new.answers.asking.requests.items ≡ old.answers.asking.requests.items ++ parts.0 = is.answers.asking.requests ∙ parts.1 ∙ ap (λ qs. qs ++ parts.0) front in
    subst (λ qs. IsLatest qs latest) (sym all) (latest_grows old.answers.asking.requests.items parts.0 latest kept)

-- ---- frames that were sent

module _ (grounds : Ground) (padded : Bool) (events : List Event) (place : ℕ) (requests : List Request) (frames : List Frame)
    (are : AreFramesOf grounds events place frames) (same : requests ≡ requests_of grounds (take place events)) where
  abbrev sent_of : (n : ℕ) (frame : Frame) → slice_get frames n ≡ Some frame → IsSent (take place events) n
  sent_of n frame at =
      let kept : IsFrameOf grounds events place n frame = are.each n frame at in
      record {
        place = frame.sent;
        port = frame.port;
        extent = kept.extent;
        bytes = kept.bytes;
        entered = front_get place events frame.sent kept.within ∙ kept.entered;
        number = sym kept.number ∙ ap frames_in (sym (take-take frame.sent place events (omega (arith, kept.within))));
      }

  may_be : (n : ℕ) (seen : Event) (v : ℕ) → v ≤ length requests → MayBeAt padded events frames n seen v (after (take v requests)) → MayBe grounds padded (take place events) n seen
  may_be n seen v le may =
      let frame = may.frame in
      let kept : IsFrameOf grounds events place n frame = are.each n frame may.at in
      record {
        sent = sent_of n frame may.at;
        by = elim may.by [
          | inl short ↦ inl (sym kept.enough ∙ short)
          | inr leaves ↦
              let so : LeavesSo padded events frame seen (after (take v requests)) = leaves.1 in
              let sent = entered_as so.port frame.port so.extent kept.extent so.bytes kept.bytes (sym so.entered ∙ kept.entered) in
              let fronts : least_behind grounds (take frame.sent (take place events)) ≡ least_behind grounds (take frame.sent events) = ap (least_behind grounds) (take-take frame.sent place events (omega (arith, kept.within))) in
              let count : length requests ≡ most_behind grounds (take place events) = ap (λ (qs : List Request). length qs) same in
              inr (
                v,
                record {
                  least = omega (arith, leaves.0, kept.least, fronts);
                  most = omega (arith, le, count);
                  shows = same_seen padded (version grounds (take place events) v) so.port frame.port so.extent kept.extent so.bytes kept.bytes seen seen sent.0 sent.1 sent.2 refl
                      (subst (λ qs. IsSeenAs padded (meaning (after (take v qs)) so.port so.bytes) so.extent seen) same so.shows);
                },
              )
        ];
      }

  kept_at : (n : ℕ) (sent : IsSent (take place events) n) → (frame : Frame) × (slice_get frames n ≡ Some frame) × (frame.sent ≡ sent.place)
  kept_at n sent =
      let there = get_in_front place events sent.place (Entered sent.port sent.extent sent.bytes) sent.entered in
      let number : n ≡ frames_in (take sent.place events) = sent.number ∙ ap frames_in (take-take sent.place place events (omega (arith, there.0))) in
      let within : n < length frames =
      omega (arith, number, are.count, frames_with events sent.place (Entered sent.port sent.extent sent.bytes) there.1, frames_front events (sent.place + 1) place (omega (arith, there.0))) in
      let here = element_at frames n within in
      let kept : IsFrameOf grounds events place n here.0 = are.each n here.0 here.1 in (
        here.0,
        here.1,
        sent_once events here.0.sent sent.place here.0.port sent.port kept.extent sent.extent kept.bytes sent.bytes kept.entered there.1 (kept.number ∙ number),
      )

  may_be_at : (n : ℕ) (seen : Event) → MayBe grounds padded (take place events) n seen
      → (v : ℕ) × (v ≤ length requests) × MayBeAt padded events frames n seen v (after (take v requests))
  may_be_at n seen may =
      let sent = may.sent in
      let k = kept_at n sent in
      let frame : Frame = k.0 in
      let kept : IsFrameOf grounds events place n frame = are.each n frame k.1 in
      let there = get_in_front place events sent.place (Entered sent.port sent.extent sent.bytes) sent.entered in
      let one = entered_as frame.port sent.port kept.extent sent.extent kept.bytes sent.bytes (sym kept.entered ∙ ap (slice_get events) k.2 ∙ there.1) in
      elim may.by [
        | inl short ↦ (
          0,
          omega arith,
          record {
            frame = frame;
            at = k.1;
            by = inl (kept.enough ∙ ap (λ x. is_enough x kept.bytes) one.1 ∙ ap (is_enough sent.extent) one.2 ∙ short);
          },
        )
        | inr by ↦
            let v : ℕ = by.0 in
            let leaves : LeavesBy grounds padded (take place events) n sent seen v = by.1 in
            let count : length requests ≡ most_behind grounds (take place events) = ap (λ (qs : List Request). length qs) same in
            let fronts : least_behind grounds (take sent.place (take place events)) ≡ least_behind grounds (take sent.place events) = ap (least_behind grounds) (take-take sent.place place events (omega (arith, there.0))) in
            let least : frame.least ≡ least_behind grounds (take sent.place events) = kept.least ∙ ap (λ p. least_behind grounds (take p events)) k.2 in (
              v,
              omega (arith, leaves.most, count),
              record {
                frame = frame;
                at = k.1;
                by = inr (
                  omega (arith, leaves.least, fronts, least),
                  record {
                    port = frame.port;
                    extent = kept.extent;
                    bytes = kept.bytes;
                    entered = kept.entered;
                    shows = subst (λ qs. IsSeenAs padded (meaning (after (take v qs)) frame.port kept.bytes) kept.extent seen) (sym same)
                        (same_seen padded (version grounds (take place events) v) sent.port frame.port sent.extent kept.extent sent.bytes kept.bytes seen seen (sym one.0) (sym one.1) (sym one.2) refl leaves.shows);
                  },
                );
              },
            )
      ]

  -- what is found of kept frames holds of the events
  pub one_of_decides : (gem : SeenGem) (extent : Extent) (among : OneOf) (result : Bool)
      → Decides result (IsSomeOf padded events requests frames gem extent among) → Decides result (IsOneOf grounds padded (take place events) gem extent among)
  one_of_decides gem extent among result decides = (
    λ yes. let some = decides.0 yes in
        let one = some.2 in
        (one.0, one.1, may_be one.0 (Left gem extent one.0 among.frame) some.0 some.1 one.2),
    λ is. let may = may_be_at is.0 (Left gem extent is.0 among.frame) is.2 in
        decides.1 (may.0, may.1, (is.0, is.1, may.2)),
  )

-- ---- whether an event is admitted

admitted_by : (terms : Terms) (events : List Event) (scene : Scene) (event : Event) (gem : SeenGem) (extent : Extent) (among : OneOf) (found : Result Bool AllocError)
    → event ≡ LeftOneOf gem extent among
    → IfOk found (λ is. Decides is (IsSomeOf terms.settings.padded events scene.answers.asking.requests.items scene.frames.items gem extent among))
    → IfOk found (λ is. (place : ℕ) → IsScene terms events place scene → Decides is (IsAdmitted terms (take place events) event))
admitted_by terms events scene event gem extent among (Ok is) same decides = λ place kept.
    subst (λ (e : Event). Decides is (IsAdmitted terms (take place events) e)) (sym same)
    (one_of_decides (ground_in terms) terms.settings.padded events place scene.answers.asking.requests.items scene.frames.items kept.frames kept.answers.asking.requests gem extent among is decides)
admitted_by terms events scene event gem extent among (Err fault) same decides = tt

pub admitted_if : (terms : Terms) (events : List Event) (scene : Scene) (event : Event) (gem : SeenGem) (extent : Extent) (among : OneOf) (found : Result Bool AllocError)
    → (padded : Bool) (given : List Event) (requests : List Request) (frames : List Frame)
    → padded ≡ terms.settings.padded → given ≡ events → requests ≡ scene.answers.asking.requests.items → frames ≡ scene.frames.items
    → event ≡ LeftOneOf gem extent among → IfOk found (λ is. Decides is (IsSomeOf padded given requests frames gem extent among))
    → IfOk found (λ is. (place : ℕ) → IsScene terms events place scene → Decides is (IsAdmitted terms (take place events) event))
admitted_if terms events scene event gem extent among found padded given requests frames pads same_events same_requests same_frames same decides =
    let of_scene : Bool → List Event → List Request → List Frame → Type 0 = λ p es qs fs. IfOk found (λ is. Decides is (IsSomeOf p es qs fs gem extent among)) in
    admitted_by terms events scene event gem extent among found same
    (subst (λ (p : Bool). of_scene p events scene.answers.asking.requests.items scene.frames.items) pads
    (subst (λ (es : List Event). of_scene padded es scene.answers.asking.requests.items scene.frames.items) same_events
    (subst (λ (qs : List Request). of_scene padded given qs scene.frames.items) same_requests
    (subst (λ (fs : List Frame). of_scene padded given requests fs) same_frames decides))))

-- the requests of a scene
pub scene_requests : (terms : Terms) (events : List Event) (place : ℕ) (scene : Scene) (requests : List Request) → IsScene terms events place scene
    → requests ≡ requests_of (ground_in terms) (take place events) → requests ≡ scene.answers.asking.requests.items
scene_requests terms events place scene requests is same = same ∙ sym is.answers.asking.requests
