-- What is kept of a scene, at its beginning and at its end.
use Rattle.std.proofs.Common.{◌≡◌, ◌<◌, ◌≤◌, ◌∙◌, List, [], length, take, ap, subst, sym, arith, append-nil, refl}
use Rattle.std.specs.List.{slice_get}
use Rattle.mib_state.specs.After.{accepted}
use Rattle.omci_msg.specs.declared.request.Request.{Request}
use Rattle.bench_history.specs.declared.event.Event.{Event}
use Rattle.bench_answers.specs.Asked.{requests_of}
use Rattle.bench_answers.specs.Kept.{IsAnswersOf}
use Rattle.bench_answers.specs.Right.{IsNext}
use Rattle.bench_answers.specs.Standing.{compared}
use Rattle.bench_answers.specs.Windows.{most_behind}
use Rattle.bench_judge.specs.Terms.{Terms, ground_in}
use Rattle.bench_judge.specs.Walk.{AreSound, IsRefused, IsWalk}
use Rattle.bench_judge.specs.Scene.{AreFramesOf, IsScene}
use Rattle.bench_judge.specs.declared.scene.Scene.{Scene}
use Rattle.bench_judge.specs.declared.walk.Walk.{Walk}
use Rattle.bench_judge.proofs.Whole.{whole_admitted, whole_bounded, whole_frames, whole_known, whole_sent}

-- ---- before all events

pub scene_none : (terms : Terms) (events : List Event) (scene : Scene) → IsAnswersOf (ground_in terms) events 0 scene.answers
    → scene.base ≡ most_behind (ground_in terms) (take 0 events) → scene.frames.items ≡ [] → IsScene terms events 0 scene
scene_none terms events scene answers most frames = record {
  answers = answers;
  base = most ∙ ap (λ (qs : List Request). length (accepted qs)) (append-nil terms.start);
  frames = record {
    count = ap (λ fs. length fs) frames;
    each = λ n frame at. cc (sym at ∙ ap (λ fs. slice_get fs n) frames);
    unsent = λ n past. refl;
  };
  admitted = λ i event less at. absurd (omega (arith, less));
}

-- ---- the whole

pub walk_of : (terms : Terms) (events : List Event) (scene : Scene) (walk : Walk) → AreSound events → walk.walked ≤ length events
    → IsScene terms events walk.walked scene
    → (walk.walked < length events → IsRefused terms (take walk.walked events) (slice_get events walk.walked))
    → walk.frames ≡ scene.frames → walk.requests.items ≡ requests_of (ground_in terms) (take walk.walked events) → walk.base ≡ scene.base
    → walk.compared ≡ compared (ground_in terms) (take walk.walked events) → IsNext (ground_in terms) (take walk.walked events) walk.awaited
    → IsWalk terms events walk
walk_of terms events scene walk sound within is refused frames requests based counted awaited =
    let are : AreFramesOf (ground_in terms) events walk.walked walk.frames.items =
    subst (λ v. AreFramesOf (ground_in terms) events walk.walked v.items) (sym frames) is.frames in
    record {
      within = within;
      admitted = whole_admitted terms events walk.walked is.admitted;
      refused = refused;
      requests = requests;
      sent = whole_sent (ground_in terms) events walk.walked walk.frames.items are;
      known = whole_known (ground_in terms) events walk.walked walk.frames.items are;
      count = ap (λ v. length v.items) frames ∙ is.frames.count;
      bounded = whole_bounded (ground_in terms) events walk.walked walk.requests.items walk.frames.items requests are;
      frames = whole_frames (ground_in terms) events walk.walked walk.frames.items sound are;
      base = based ∙ is.base;
      compared = counted;
      awaited = awaited;
    }
