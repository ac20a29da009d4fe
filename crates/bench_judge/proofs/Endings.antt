-- What is known of the frame whose end leaves no choice.
use Rattle.std.proofs.Common.{◌≡◌, ℕ, ◌+◌, ◌-◌, ◌<◌, ◌≤◌, Bool, true, false, List, length, map, take, get_or, slice_index, Option, Some, None, Vec, slice_get, ap, ap₂, sym, subst, ◌∙◌, arith, take-take}
use Rattle.std.specs.declared.alloc.Global.{Global}
use Rattle.std.proofs.Math.Nat.{min-le_left}
use Rattle.std.proofs.lemmas.List.{length-map}
use Rattle.std.proofs.lemmas.Option.{get_or_from_slice_get, slice_get_within}
use Rattle.omci_msg.specs.declared.request.Request.{Request}
use Rattle.mib_state.specs.After.{after}
use Rattle.frame_meaning.specs.Meaning.{meaning}
use Rattle.frame_meaning.specs.declared.verdict.Verdict.{Verdict}
use Rattle.bench_history.specs.History.{is_end_of}
use Rattle.bench_history.specs.declared.event.Event.{Event}
use Rattle.bench_history.specs.declared.event.Event.TheVariants.{Entered}
use Rattle.bench_history.specs.declared.extent.Extent.{Extent}
use Rattle.bench_answers.specs.Asked.{base, requests_of, version}
use Rattle.bench_answers.specs.Windows.{least_behind, most_behind}
use Rattle.bench_judge.specs.Explained.{EndedFrame, IsChoice, IsEnded}
use Rattle.bench_judge.specs.Frames.{AreFrames, AreWithin, IsKeptIn}
use Rattle.bench_judge.specs.Bounds.{IsLeastLeft, IsMostLeft}
use Rattle.bench_judge.specs.Cut.{IsFitted, IsTurn, Suits, until}
use Rattle.bench_judge.specs.Judged.{AreRuns, IsAtLeast, IsAtMost, IsEndAs, IsWrongFrame}
use Rattle.bench_judge.specs.Walk.{AreSound, IsWalk}
use Rattle.bench_judge.specs.declared.frame.Frame.{Frame}
use Rattle.bench_judge.specs.declared.judgement.End.{End}
use Rattle.bench_judge.specs.declared.judgement.Run.{Run}
use Rattle.bench_judge.specs.Terms.{Terms, ground_in}
use Rattle.bench_judge.specs.declared.walk.Walk.{Walk}
use Rattle.bench_judge.proofs.Choices.{BeginWith, choice_of_fits, fits_of_choice}
use Rattle.bench_judge.proofs.Cuts.{cut_frames, cut_within}
use Rattle.bench_judge.proofs.Deviating.{at_least_is, at_most_is}
use Rattle.bench_answers.proofs.Fronts.{base_within, least_within, most_grows, version_front}
use Rattle.bench_judge.proofs.Fronts.{ended_in_front}
use Rattle.bench_judge.proofs.Joined.{same_runs}
use Rattle.bench_judge.proofs.Lists.{read_is}
use Rattle.bench_judge.proofs.Swept.{begin_shorter}
use Rattle.bench_judge.proofs.Turns.{EndsAt, turn_ends}
use Rattle.bench_judge.proofs.Whole.{one_number}

-- what is left is no more than the window has
pub most_left : (padded : Bool) (unordered : Bool) (events : List Event) (requests : List Request) (frames : List Frame) (port n most bound : ℕ)
    → IsMostLeft padded unordered events requests frames port n most bound → bound ≤ most
most_left padded true events requests frames port n most bound is = omega (arith, is)
most_left padded false events requests frames port n most bound (Some m, first, left) =
    let le = min-le_left most left.0 in omega (arith, left.2, le)
most_left padded false events requests frames port n most bound (None, first, left) = omega (arith, left)

-- runs by the same verdicts
pub same_verdicts : (one other : ℕ → Verdict) (sent : List ℕ) (from to : ℕ) (runs : List Run) → ((v : ℕ) → v ≤ to → one v ≡ other v)
    → AreRuns one sent from to runs → AreRuns other sent from to runs
same_verdicts one other sent from to runs same are =
    record {
      none = are.none;
      some = λ le. same_runs one other sent from (to + 1) runs (λ v lt. same v (omega (arith, lt))) (are.some le);
    }

module _ (terms : Terms) (events : List Event) (walk : Walk) (place : ℕ) (sound : AreSound events) (known : IsWalk terms events walk)
    (lt : place < walk.walked) (turn : IsTurn (ground_in terms) terms.settings.padded terms.settings.unordered events place) where
  pub within : place < length events
  within = omega (arith, lt, known.within)

  abbrev pub e : EndsAt events place
  e = turn_ends (ground_in terms) terms.settings.unordered events place sound within turn

  abbrev pub f : EndedFrame
  f = e.f

  pub in_walk : IsEnded (take walk.walked events) f
  in_walk = ended_in_front walk.walked events f (omega (arith, e.ended, lt)) e.is

  abbrev pub kept : IsKeptIn (ground_in terms) (take walk.walked events) walk.frames.items f
  kept = known.frames.each f in_walk

  seen_at : slice_get events place ≡ Some f.seen
  seen_at = ap (slice_get events) (sym e.ended) ∙ e.is.seen

  pub event_is : (event : Event) → event ≡ get_or events place event → event ≡ f.seen
  event_is event read = read_is events place event f.seen read seen_at

  pub ends : (event : Event) → event ≡ get_or events place event → (n : ℕ) × (is_end_of n event ≡ true)
  ends event read = (f.number, ap (is_end_of f.number) (event_is event read) ∙ e.is.is_end)

  pub number_is : (event : Event) (n : ℕ) → event ≡ get_or events place event → is_end_of n event ≡ true → n ≡ f.number
  number_is event n read is = one_number n f.number f.seen (ap (is_end_of n) (sym (event_is event read)) ∙ is) e.is.is_end

  pub number_within : (n : ℕ) → n ≡ f.number → n < length walk.frames.items
  number_within n is = let lt = slice_get_within walk.frames.items f.number kept.frame kept.at in omega (arith, is, lt)

  pub frame_is : (n : ℕ) (frame d : Frame) → n ≡ f.number → frame ≡ get_or walk.frames.items n d → frame ≡ kept.frame
  frame_is n frame d is read = read ∙ get_or_from_slice_get walk.frames.items n kept.frame d (ap (slice_get walk.frames.items) is ∙ kept.at)

  sent_front : take f.sent (take walk.walked events) ≡ take f.sent events
  sent_front = take-take f.sent walk.walked events (omega (arith, e.is.later, e.ended, lt))

  pub sent_at : (frame : Frame) → frame ≡ kept.frame → slice_get events frame.sent ≡ Some (Entered f.port f.extent f.bytes)
  sent_at frame is = ap (λ (x : Frame). slice_get events x.sent) is ∙ ap (slice_get events) kept.kept.sent ∙ e.is.entered

  pub sent_within : (frame : Frame) → frame ≡ kept.frame → frame.sent < place
  sent_within frame is =
      let same : frame.sent ≡ f.sent = ap (λ (x : Frame). x.sent) is ∙ kept.kept.sent in
      omega (arith, same, e.is.later, e.ended)

  pub most_is : (frame : Frame) → frame ≡ kept.frame → frame.most ≡ most_behind (ground_in terms) (take place events)
  most_is frame is =
      ap (λ (x : Frame). x.most) is ∙ kept.kept.most ∙ ap (λ n. most_behind (ground_in terms) (take n (take walk.walked events))) e.ended
      ∙ ap (most_behind (ground_in terms)) (take-take place walk.walked events (omega (arith, lt)))

  based : walk.base ≡ base (ground_in terms)
  based = known.base

  -- no fewer requests may be in force than before the first event
  base_below : (frame : Frame) → frame ≡ kept.frame → base (ground_in terms) ≤ frame.most
  base_below frame is =
      let low = base_within (ground_in terms) (take place events) in
      let high = least_within (ground_in terms) (take place events) in
      let most = most_is frame is in
      omega (arith, low, high, most)

  module _ (requests : List Request) (frames : List Frame) (same_requests : requests ≡ walk.requests.items) (same_frames : frames ≡ map (until place) walk.frames.items) where
    accepts : requests ≡ requests_of (ground_in terms) (take walk.walked events)
    accepts = same_requests ∙ known.requests

    pub cut_are : AreFrames (ground_in terms) (take place events) frames
    cut_are = subst (AreFrames (ground_in terms) (take place events)) (sym same_frames) (cut_frames (ground_in terms) place walk.walked events walk.frames.items (omega (arith, lt)) known.frames)

    pub bounded : AreWithin requests frames
    bounded = subst (AreWithin requests) (sym same_frames) (cut_within (ground_in terms) place walk.walked events requests walk.frames.items (omega (arith, lt)) accepts known.frames)

    begins : BeginWith (ground_in terms) requests (take place events)
    begins = begin_shorter (ground_in terms) place walk.walked events requests (omega (arith, lt)) accepts

    pub not_none : IsFitted terms.settings.padded terms.settings.unordered events requests frames None → ⊥
    not_none none = none turn.before.0 (fits_of_choice (ground_in terms) place events requests begins terms.settings.unordered frames turn.before.0 cut_are turn.before.1)

    -- versions that fit are a choice of the events before the place
    pub choice_before : (versions : ℕ → ℕ) → Suits terms.settings.padded terms.settings.unordered events requests frames versions
        → IsChoice (ground_in terms) terms.settings.padded terms.settings.unordered (take place events) versions
    choice_before versions suits = choice_of_fits (ground_in terms) place events requests begins terms.settings.unordered frames versions cut_are suits.0

    pub cut_long : (n : ℕ) → n ≡ f.number → n < length frames
    cut_long n is =
        let len : length frames ≡ length walk.frames.items = ap (λ (l : List Frame). length l) same_frames ∙ length-map walk.frames.items (until place) in
        let under = number_within n is in
        omega (arith, len, under)

    pub most_within : (frame : Frame) → frame ≡ kept.frame → frame.most ≤ length requests
    most_within frame is =
        let most = most_is frame is in
        let count : length requests ≡ most_behind (ground_in terms) (take walk.walked events) = ap (λ (l : List Request). length l) accepts in
        omega (arith, most, count, most_grows (ground_in terms) events place walk.walked (omega (arith, lt)))

    meant : (frame : Frame) (sent : List ℕ) (v : ℕ) → frame ≡ kept.frame → sent ≡ f.bytes → v ≤ frame.most
        → meaning (after (take v requests)) frame.port sent ≡ meaning (version (ground_in terms) events v) f.port f.bytes
    meant frame sent v is bytes le =
        let port : frame.port ≡ f.port = ap (λ (x : Frame). x.port) is ∙ kept.kept.port in
        let most = most_is frame is in
        let entities : after (take v requests) ≡ version (ground_in terms) events v =
        ap (λ l. after (take v l)) accepts
        ∙ sym (version_front (ground_in terms) walk.walked v events (omega (arith, le, most, most_grows (ground_in terms) events place walk.walked (omega (arith, lt))))) in
        ap (λ e. meaning e frame.port sent) entities ∙ ap₂ (λ p b. meaning (version (ground_in terms) events v) p b) port bytes

    -- all of it together
    pub wrong_frame_is : (n : ℕ) (frame : Frame) (versions : ℕ → ℕ) (at_least at_most from to : ℕ) (extent : Extent) (sent : List ℕ) (end : End) (runs : Vec Run Global)
        → n ≡ f.number → frame ≡ kept.frame → Suits terms.settings.padded terms.settings.unordered events requests frames versions
        → IsLeastLeft terms.settings.unordered frames versions frame.port n frame.least at_least
        → IsMostLeft terms.settings.padded terms.settings.unordered events requests frames frame.port n frame.most at_most
        → extent ≡ f.extent → sent ≡ f.bytes → IsEndAs f.seen end
        → from ≡ at_least - walk.base → to ≡ at_most - walk.base
        → AreRuns (λ v. meaning (after (take (walk.base + v) requests)) frame.port sent) sent from to runs.items
        → IsWrongFrame terms events place
        (record { number = n; port = frame.port; sent_line = frame.sent + 1; extent = extent; sent = sent; seen = end; at_least = from; at_most = to; runs = runs })
    wrong_frame_is n frame versions at_least at_most from to extent sent end runs number is fits least most known bytes ended begin_at end_at are =
        let port : frame.port ≡ f.port = ap (λ (x : Frame). x.port) is ∙ kept.kept.port in
        record {
          f = f;
          is = e.is;
          ended = e.ended;
          number = number;
          port = port;
          line = ap (λ m. m + 1) (ap (λ (x : Frame). x.sent) is ∙ kept.kept.sent);
          extent = known;
          sent = bytes;
          seen = ended;
          least = at_least;
          is_least = subst (λ l. IsAtLeast (ground_in terms) terms.settings.padded terms.settings.unordered (take place events) f l at_least)
              (ap (λ (x : Frame). x.least) is ∙ kept.kept.least ∙ ap (least_behind (ground_in terms)) sent_front)
              (at_least_is (ground_in terms) place events requests begins frames cut_are f terms.settings.unordered versions frame.least at_least fits
              (subst (λ m. IsLeastLeft terms.settings.unordered frames versions f.port m frame.least at_least) number
              (subst (λ p. IsLeastLeft terms.settings.unordered frames versions p n frame.least at_least) port least)));
          at_least = begin_at ∙ ap (λ b. at_least - b) based;
          most = at_most;
          is_most = subst (λ m. IsAtMost (ground_in terms) terms.settings.padded terms.settings.unordered (take place events) f m at_most) (most_is frame is)
              (at_most_is (ground_in terms) place events requests begins frames cut_are f terms.settings.unordered frame.most at_most
              (subst (λ m. IsMostLeft terms.settings.padded terms.settings.unordered events requests frames f.port m frame.most at_most) number
              (subst (λ p. IsMostLeft terms.settings.padded terms.settings.unordered events requests frames p n frame.most at_most) port most)));
          at_most = end_at ∙ ap (λ b. at_most - b) based;
          runs = subst (λ b. AreRuns (λ v. meaning (version (ground_in terms) events (base (ground_in terms) + v)) f.port f.bytes) b from to runs.items) bytes
              (same_verdicts (λ v. meaning (after (take (walk.base + v) requests)) frame.port sent)
              (λ v. meaning (version (ground_in terms) events (base (ground_in terms) + v)) f.port f.bytes) sent from to runs.items
              (λ v le.
              let top = most_left terms.settings.padded terms.settings.unordered events requests frames frame.port n frame.most at_most most in
              let low = base_below frame is in
              ap (λ b. meaning (after (take (b + v) requests)) frame.port sent) based
              ∙ meant frame sent (base (ground_in terms) + v) is bytes (omega (arith, le, top, low, end_at, based))) are);
        }

    -- the same, with what each call was given
    pub wrong_frame_by : (n : ℕ) (frame : Frame) (at_least at_most from to : ℕ) (extent : Extent) (sent : List ℕ) (end : End) (runs : Vec Run Global)
        → n ≡ f.number → frame ≡ kept.frame
        → (swept_requests : List Request) (swept_frames : List Frame) (found : Option (Vec ℕ Global)) (versions : Vec ℕ Global)
        → swept_requests ≡ requests → swept_frames ≡ frames → found ≡ Some versions → IsFitted terms.settings.padded terms.settings.unordered events swept_requests swept_frames found
        → (given : List ℕ) → given ≡ versions.items
        → IsLeastLeft terms.settings.unordered frames (slice_index given) frame.port n frame.least at_least
        → IsMostLeft terms.settings.padded terms.settings.unordered events requests frames frame.port n frame.most at_most
        → extent ≡ f.extent → sent ≡ f.bytes → IsEndAs f.seen end
        → from ≡ at_least - walk.base → to ≡ at_most - walk.base
        → (run_requests : List Request) (bytes : List ℕ) → run_requests ≡ requests → bytes ≡ sent
        → AreRuns (λ v. meaning (after (take (walk.base + v) run_requests)) frame.port bytes) bytes from to runs.items
        → IsWrongFrame terms events place
        (record { number = n; port = frame.port; sent_line = frame.sent + 1; extent = extent; sent = sent; seen = end; at_least = from; at_most = to; runs = runs })
    wrong_frame_by n frame at_least at_most from to extent sent end runs number is swept_requests swept_frames found versions same_r same_f some swept given same_v least most known bytes ended begin_at end_at
        run_requests run_bytes same_run same_bytes are =
        let fits : Suits terms.settings.padded terms.settings.unordered events requests frames (slice_index versions.items) =
        subst (λ r. Suits terms.settings.padded terms.settings.unordered events r frames (slice_index versions.items)) same_r
        (subst (λ fs. Suits terms.settings.padded terms.settings.unordered events swept_requests fs (slice_index versions.items)) same_f
        (subst (IsFitted terms.settings.padded terms.settings.unordered events swept_requests swept_frames) some swept)) in
        wrong_frame_is n frame (slice_index versions.items) at_least at_most from to extent sent end runs number is fits
        (subst (λ l. IsLeastLeft terms.settings.unordered frames (slice_index l) frame.port n frame.least at_least) same_v least) most known bytes ended begin_at end_at
        (subst (λ r. AreRuns (λ v. meaning (after (take (walk.base + v) r)) frame.port sent) sent from to runs.items) same_run
        (subst (λ b. AreRuns (λ v. meaning (after (take (walk.base + v) run_requests)) frame.port b) b from to runs.items) same_bytes are))
