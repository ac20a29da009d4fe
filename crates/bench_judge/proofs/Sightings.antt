-- What is kept of frames, one event on.
use Rattle.std.proofs.Common.{◌≡◌, ◌≢◌, ◌+◌, ℕ, Bool, true, false, cond, ◌||◌, eqb, List, [], ◌∷◌, ◌++◌, length, take, set, Option, Some, None, inl, inr, refl, ap, sym, subst, ◌∙◌, arith, length-append, length-set}
use Rattle.std.specs.List.{slice_get}
use Rattle.std.proofs.lemmas.Bool.{eq-eqb, ne_eqb, true≢false}
use Rattle.std.proofs.lemmas.Option.{slice_get_within}
use Rattle.bench_history.specs.History.{frames_in, has_ended, is_end_of, is_frame}
use Rattle.bench_history.specs.declared.event.Event.{Event}
use Rattle.bench_history.specs.declared.event.Event.TheVariants.{Entered}
use Rattle.bench_history.specs.declared.extent.Extent.{Extent}
use Rattle.bench_sight.specs.Sight.{is_enough}
use Rattle.bench_answers.specs.Windows.{least_behind, most_behind}
use Rattle.bench_judge.specs.Scene.{AreFramesOf, IsEndOf, IsFrameOf, ended_by}
use Rattle.bench_judge.specs.declared.frame.Frame.{Frame}
use Rattle.bench_answers.proofs.Places.{get_pushed, get_written}
use Rattle.bench_judge.proofs.Counted.{ended_with, frames_with}
use Rattle.bench_answers.specs.Ground.{Ground}

or_none : (a b : Bool) → b ≡ false → (a || b) ≡ a
or_none true b none = refl
or_none false b none = none

-- a frame that no event ends stays as it is
frame_kept : (grounds : Ground) (events : List Event) (place n : ℕ) (frame : Frame) → has_ended n (take (place + 1) events) ≡ has_ended n (take place events)
    → IsFrameOf grounds events place n frame → IsFrameOf grounds events (place + 1) n frame
frame_kept grounds events place n frame same is = record {
  extent = is.extent;
  bytes = is.bytes;
  entered = is.entered;
  enough = is.enough;
  within = omega (arith, is.within);
  number = is.number;
  least = is.least;
  end = elim frame.ended as (λ e. IsEndOf grounds events place n frame e → IsEndOf grounds events (place + 1) n frame e) [
    | Some end ↦ λ ended. record {
      within = omega (arith, ended.within);
      later = ended.later;
      seen = ended.seen;
      at = ended.at;
      is_end = ended.is_end;
      enough = ended.enough;
      most = ended.most;
    }
    | None ↦ λ open_yet. (
      elim open_yet.0 [ inl short ↦ inl short | inr not_yet ↦ inr (same ∙ not_yet) ],
      open_yet.1,
    )
  ] is.end;
}

-- an event that is no frame and ends none
pub frames_same : (grounds : Ground) (events : List Event) (place : ℕ) (event : Event) (frames : List Frame) → slice_get events place ≡ Some event
    → is_frame event ≡ false → ((n : ℕ) → is_end_of n event ≡ false)
    → AreFramesOf grounds events place frames → AreFramesOf grounds events (place + 1) frames
frames_same grounds events place event frames at none ends are =
    let same : (n : ℕ) → has_ended n (take (place + 1) events) ≡ has_ended n (take place events) =
    λ n. ended_with n events place event at ∙ or_none (has_ended n (take place events)) (is_end_of n event) (ends n) in
    record {
      count = are.count ∙ sym (frames_with events place event at ∙ omega (arith, ap {B = ℕ} (λ (b : Bool). cond b 1 0) none));
      each = λ n frame here. frame_kept grounds events place n frame (same n) (are.each n frame here);
      unsent = λ n past. same n ∙ are.unsent n past;
    }

-- a frame that is sent
pub record IsSentFrame (grounds : Ground) (events : List Event) (place into : ℕ) (enough : Bool) (frame : Frame) : Type 0 where
  pub sent : frame.sent ≡ place
  pub open_yet : frame.ended ≡ None
  pub port : frame.port ≡ into
  pub known : frame.is_enough ≡ enough
  pub least : frame.least ≡ least_behind grounds (take place events)
  pub most : frame.most ≡ 0

pub frames_more : (grounds : Ground) (events : List Event) (place port : ℕ) (extent : Extent) (bytes : List ℕ) (frames : List Frame) (frame : Frame)
    → slice_get events place ≡ Some (Entered port extent bytes) → IsSentFrame grounds events place port (is_enough extent bytes) frame
    → AreFramesOf grounds events place frames → AreFramesOf grounds events (place + 1) (frames ++ frame ∷ [])
frames_more grounds events place port extent bytes frames frame at is are =
    let same : (n : ℕ) → has_ended n (take (place + 1) events) ≡ has_ended n (take place events) =
    λ n. ended_with n events place (Entered port extent bytes) at ∙ or_none (has_ended n (take place events)) false refl in
    let one_more = length-append frames (frame ∷ []) in
    let last : IsFrameOf grounds events (place + 1) (length frames) frame = record {
      extent = extent;
      bytes = bytes;
      entered = ap (slice_get events) is.sent ∙ at ∙ ap (λ (p : ℕ). Some (Entered p extent bytes)) (sym is.port);
      enough = is.known;
      within = omega (arith, is.sent);
      number = ap (λ (p : ℕ). frames_in (take p events)) is.sent ∙ sym are.count;
      least = is.least ∙ ap (λ (p : ℕ). least_behind grounds (take p events)) (sym is.sent);
      end = subst (λ (e : Option ℕ). IsEndOf grounds events (place + 1) (length frames) frame e) (sym is.open_yet) (inr (same (length frames) ∙ are.unsent (length frames) (omega arith)), is.most);
    } in
    record {
      count = omega (arith, one_more, are.count, frames_with events place (Entered port extent bytes) at);
      each = λ n other here.
          elim (get_pushed frames frame n other here) [
            | inl old ↦ frame_kept grounds events place n other (same n) (are.each n other old)
            | inr end ↦ subst (λ (f : Frame). IsFrameOf grounds events (place + 1) n f) end.1 (subst (λ (k : ℕ). IsFrameOf grounds events (place + 1) k frame) (sym end.0) last)
          ];
      unsent = λ n past. same n ∙ are.unsent n (omega (arith, past, one_more));
    }

-- how a frame is kept behind the event that ends it
frame_closed : (grounds : Ground) (events : List Event) (place number : ℕ) (event : Event) (frame : Frame) → slice_get events place ≡ Some event
    → is_end_of number event ≡ true → IsFrameOf grounds events place number frame
    → IsFrameOf grounds events (place + 1) number (ended_by place (most_behind grounds (take place events)) frame)
frame_closed grounds events place number event frame at is_end old =
    by frame.is_enough refl
  where
    most : ℕ
    most = most_behind grounds (take place events)

    open_yet : (e : Option ℕ) → frame.is_enough ≡ false → IsEndOf grounds events place number frame e → IsEndOf grounds events (place + 1) number frame e
    open_yet (Some end) short ended = absurd (true≢false (sym ended.enough ∙ short))
    open_yet None short is = (inl short, is.1)

    by : (b : Bool) → frame.is_enough ≡ b → IsFrameOf grounds events (place + 1) number (ended_by place most frame)
    by true enough =
        subst (λ (f : Frame). IsFrameOf grounds events (place + 1) number f) (sym (ap (λ (b : Bool). cond b (record frame { ended = Some place; most = most }) frame) enough)) (record {
          extent = old.extent;
          bytes = old.bytes;
          entered = old.entered;
          enough = old.enough;
          within = omega (arith, old.within);
          number = old.number;
          least = old.least;
          end = record {
            within = omega arith;
            later = old.within;
            seen = event;
            at = at;
            is_end = is_end;
            enough = enough;
            most = refl;
          };
        })
    by false short =
        subst (λ (f : Frame). IsFrameOf grounds events (place + 1) number f) (sym (ap (λ (b : Bool). cond b (record frame { ended = Some place; most = most }) frame) short)) (record {
          extent = old.extent;
          bytes = old.bytes;
          entered = old.entered;
          enough = old.enough;
          within = omega (arith, old.within);
          number = old.number;
          least = old.least;
          end = open_yet frame.ended short old.end;
        })

-- a frame that is ended
pub frames_ended : (grounds : Ground) (events : List Event) (place number : ℕ) (event : Event) (frames : List Frame) (frame : Frame)
    → slice_get events place ≡ Some event → is_frame event ≡ false → ((n : ℕ) → is_end_of n event ≡ eqb number n)
    → slice_get frames number ≡ Some frame
    → AreFramesOf grounds events place frames
    → AreFramesOf grounds events (place + 1) (set frames number (ended_by place (most_behind grounds (take place events)) frame))
frames_ended grounds events place number event frames frame at none ends here are =
    let closed : Frame = ended_by place (most_behind grounds (take place events)) frame in
    let old : IsFrameOf grounds events place number frame = are.each number frame here in
    let same : (n : ℕ) → n ≢ number → has_ended n (take (place + 1) events) ≡ has_ended n (take place events) =
    λ n other. ended_with n events place event at
    ∙ or_none (has_ended n (take place events)) (is_end_of n event) (ends n ∙ ne_eqb number n (λ e. other (sym e))) in
    let many : length (set frames number closed) ≡ length frames = length-set frames number closed in
    let less = slice_get_within frames number frame here in
    let now : IsFrameOf grounds events (place + 1) number closed = frame_closed grounds events place number event frame at (ends number ∙ eq-eqb number number refl) old in
    record {
      count = many ∙ are.count ∙ sym (frames_with events place event at ∙ omega (arith, ap {B = ℕ} (λ (b : Bool). cond b 1 0) none));
      each = λ n other there.
          elim (get_written frames number closed n other there) [
            | inl new ↦ subst (λ (f : Frame). IsFrameOf grounds events (place + 1) n f) new.1 (subst (λ (k : ℕ). IsFrameOf grounds events (place + 1) k closed) (sym new.0) now)
            | inr kept ↦ frame_kept grounds events place n other (same n kept.0) (are.each n other kept.1)
          ];
      unsent = λ n past. same n (λ e. omega (arith, e, past, many, less)) ∙ are.unsent n (omega (arith, past, many));
    }
