-- What is kept of events, one event on.
use Rattle.std.proofs.Common.{◌≡◌, ◌<◌, ◌+◌, ℕ, true, false, eqb, ltb, not, List, [], ◌∷◌, ◌++◌, length, take, set, Option, Some, inl, inr, refl, ap, sym, subst, ◌∙◌, arith}
use Rattle.std.specs.List.{slice_get}
use Rattle.std.proofs.lemmas.Bool.{and_parts, cases_lt, ltb-true}
use Rattle.std.proofs.lemmas.Option.{same_Some}
use Rattle.bench_history.specs.History.{frames_in, has_ended, is_end_of, is_frame, is_open, is_sound}
use Rattle.bench_history.specs.Among.{OneOf}
use Rattle.bench_history.specs.declared.event.Event.{Event}
use Rattle.bench_history.specs.declared.event.Event.TheVariants.{Sent, Replied, Excused, Entered, Left, LeftOneOf, Strayed, Dropped, Lost, Waited, Ended, Nothing}
use Rattle.bench_history.specs.declared.extent.Extent.{Extent}
use Rattle.bench_history.specs.declared.gem.SeenGem.{SeenGem}
use Rattle.bench_sight.specs.Sight.{is_enough}
use Rattle.bench_judge.specs.Admitted.{IsAdmitted}
use Rattle.bench_answers.specs.Kept.{IsAnswersOf}
use Rattle.bench_answers.specs.Windows.{most_behind}
use Rattle.bench_answers.specs.declared.answers.Answers.{Answers}
use Rattle.bench_answers.proofs.Idle.{IsIdle, idle_stays}
use Rattle.bench_judge.specs.Terms.{Terms, ground_in}
use Rattle.bench_judge.specs.Scene.{AreAdmittedUpTo, AreFramesOf, IsScene, ended_by}
use Rattle.bench_judge.specs.declared.frame.Frame.{Frame}
use Rattle.bench_judge.specs.declared.scene.Scene.{Scene}
use Rattle.bench_answers.proofs.Places.{element_at}
use Rattle.bench_judge.proofs.Sightings.{IsSentFrame, frames_ended, frames_more, frames_same}

-- ---- what is admitted

admitted_more : (terms : Terms) (events : List Event) (place : ℕ) (event : Event) → slice_get events place ≡ Some event
    → IsAdmitted terms (take place events) event → AreAdmittedUpTo terms events place → AreAdmittedUpTo terms events (place + 1)
admitted_more terms events place event at admitted before i other less here =
    elim (cases_lt i place) [
      | inl above ↦ before i other above here
      | inr not_above ↦
          let same : i ≡ place = omega (arith, less, not_above) in
          let is : event ≡ other = same_Some event other (sym at ∙ ap (slice_get events) (sym same) ∙ here) in
          subst (λ (k : ℕ). IsAdmitted terms (take k events) other) (sym same) (subst (λ (e : Event). IsAdmitted terms (take place events) e) is admitted)
    ]

-- ---- an event more

-- what sends no frame and ends none
pub record IsNoFrame (event : Event) : Type 0 where
  pub enters : is_frame event ≡ false
  pub ends : (n : ℕ) → is_end_of n event ≡ false

-- an event that leaves the frames as they were
pub scene_more : (terms : Terms) (events : List Event) (place : ℕ) (event : Event) (old new : Scene) → slice_get events place ≡ Some event → IsNoFrame event
    → IsAdmitted terms (take place events) event → IsAnswersOf (ground_in terms) events (place + 1) new.answers
    → new.base ≡ old.base → new.frames ≡ old.frames
    → IsScene terms events place old → IsScene terms events (place + 1) new
scene_more terms events place event old new at none admitted answers based frames is = record {
  answers = answers;
  base = based ∙ is.base;
  frames = subst (λ (fs : List Frame). AreFramesOf (ground_in terms) events (place + 1) fs) (sym (ap (λ v. v.items) frames))
      (frames_same (ground_in terms) events place event old.frames.items at none.enters none.ends is.frames);
  admitted = admitted_more terms events place event at admitted is.admitted;
}

pub sent_no_frame : (message : List ℕ) → IsNoFrame (Sent message)
sent_no_frame message = record { enters = refl; ends = λ n. refl }

pub replied_no_frame : (bytes : List ℕ) → IsNoFrame (Replied bytes)
replied_no_frame bytes = record { enters = refl; ends = λ n. refl }

pub excused_no_frame : (bytes : List ℕ) → IsNoFrame (Excused bytes)
excused_no_frame bytes = record { enters = refl; ends = λ n. refl }

pub waited_no_frame : (replies : Option ℕ) → IsNoFrame (Waited replies)
waited_no_frame replies = record { enters = refl; ends = λ n. refl }

-- what is no message, no reply, no wait, and sends no frame and ends none
pub record IsQuiet (event : Event) : Type 0 where
  pub idle : IsIdle event
  pub none : IsNoFrame event

pub nothing_quiet : IsQuiet Nothing
nothing_quiet = record { idle = tt; none = record { enters = refl; ends = λ n. refl } }

pub ended_quiet : IsQuiet Ended
ended_quiet = record { idle = tt; none = record { enters = refl; ends = λ n. refl } }

pub stray_quiet : (gem : SeenGem) (extent : Extent) (bytes : List ℕ) → IsQuiet (Strayed gem extent bytes)
stray_quiet gem extent bytes = record { idle = tt; none = record { enters = refl; ends = λ n. refl } }

pub one_of_quiet : (gem : SeenGem) (extent : Extent) (among : OneOf) → IsQuiet (LeftOneOf gem extent among)
one_of_quiet gem extent among = record { idle = tt; none = record { enters = refl; ends = λ n. refl } }

pub scene_quiet : (terms : Terms) (events : List Event) (place : ℕ) (event : Event) (old : Scene) → slice_get events place ≡ Some event → IsQuiet event
    → IsAdmitted terms (take place events) event → IsScene terms events place old → IsScene terms events (place + 1) old
scene_quiet terms events place event old at quiet admitted is =
    scene_more terms events place event old old at quiet.none admitted
    (idle_stays (ground_in terms) events place event old.answers at quiet.idle is.answers) refl refl is

-- ---- a frame that is sent

pub scene_entered : (terms : Terms) (events : List Event) (place port : ℕ) (extent : Extent) (bytes : List ℕ) (frame : Frame) (old new : Scene)
    → slice_get events place ≡ Some (Entered port extent bytes) → IsSentFrame (ground_in terms) events place port (is_enough extent bytes) frame
    → new.answers ≡ old.answers → new.base ≡ old.base → new.frames.items ≡ old.frames.items ++ frame ∷ []
    → IsScene terms events place old → IsScene terms events (place + 1) new
scene_entered terms events place port extent bytes frame old new at sent answers based frames is = record {
  answers = subst (λ (a : Answers). IsAnswersOf (ground_in terms) events (place + 1) a) (sym answers)
      (idle_stays (ground_in terms) events place (Entered port extent bytes) old.answers at tt is.answers);
  base = based ∙ is.base;
  frames = subst (λ (fs : List Frame). AreFramesOf (ground_in terms) events (place + 1) fs) (sym frames)
      (frames_more (ground_in terms) events place port extent bytes old.frames.items frame at sent is.frames);
  admitted = admitted_more terms events place (Entered port extent bytes) at tt is.admitted;
}

-- ---- a frame that is ended

-- what ends a frame of a number
pub record IsEnd (number : ℕ) (event : Event) : Type 0 where
  pub ends : (n : ℕ) → is_end_of n event ≡ eqb number n
  pub idle : IsIdle event
  pub enters : is_frame event ≡ false
  pub admitted : (terms : Terms) (before : List Event) → IsAdmitted terms before event
  pub sent : (before : List Event) → is_sound before event ≡ true → number < frames_in before

-- an open frame was sent
open_frame : (before : List Event) (number : ℕ) → is_open number before ≡ true → number < frames_in before
open_frame before number open_yet =
    ltb-true number (frames_in before) (and_parts (ltb number (frames_in before)) (not (has_ended number before)) open_yet).0

pub left_ends : (gem : SeenGem) (extent : Extent) (number : ℕ) (bytes : List ℕ) → IsEnd number (Left gem extent number bytes)
left_ends gem extent number bytes = record {
  ends = λ n. refl;
  idle = tt;
  enters = refl;
  admitted = λ terms before. tt;
  sent = λ before sound. open_frame before number sound;
}

pub dropped_ends : (number : ℕ) → IsEnd number (Dropped number)
dropped_ends number = record {
  ends = λ n. refl;
  idle = tt;
  enters = refl;
  admitted = λ terms before. tt;
  sent = λ before sound. open_frame before number sound;
}

pub lost_ends : (number : ℕ) → IsEnd number (Lost number)
lost_ends number = record {
  ends = λ n. refl;
  idle = tt;
  enters = refl;
  admitted = λ terms before. tt;
  sent = λ before sound. open_frame before number sound;
}

pub scene_ended : (terms : Terms) (events : List Event) (place number most : ℕ) (event : Event) (old new : Scene)
    → slice_get events place ≡ Some event → IsEnd number event → is_sound (take place events) event ≡ true
    → new.answers ≡ old.answers → new.base ≡ old.base
    → most ≡ most_behind (ground_in terms) (take place events)
    → ((frame : Frame) → slice_get old.frames.items number ≡ Some frame
    → new.frames.items ≡ set old.frames.items number (ended_by place most frame))
    → IsScene terms events place old → IsScene terms events (place + 1) new
scene_ended terms events place number most event old new at ends sound answers based behind frames is =
    let within : number < length old.frames.items = omega (arith, ends.sent (take place events) sound, is.frames.count) in
    let here = element_at old.frames.items number within in
    let frame : Frame = here.0 in
    let written : new.frames.items ≡ set old.frames.items number (ended_by place (most_behind (ground_in terms) (take place events)) frame) =
    frames frame here.1 ∙ ap (λ (m : ℕ). set old.frames.items number (ended_by place m frame)) behind in
    record {
      answers = subst (λ (a : Answers). IsAnswersOf (ground_in terms) events (place + 1) a) (sym answers)
          (idle_stays (ground_in terms) events place event old.answers at ends.idle is.answers);
      base = based ∙ is.base;
      frames = subst (λ (fs : List Frame). AreFramesOf (ground_in terms) events (place + 1) fs) (sym written)
          (frames_ended (ground_in terms) events place number event old.frames.items frame at ends.enters ends.ends here.1 is.frames);
      admitted = admitted_more terms events place event at (ends.admitted terms (take place events)) is.admitted;
    }
