-- What is kept of the events before a place, said of the front of them.
use Rattle.std.proofs.Common.{◌≡◌, ◌<◌, ◌≤◌, ◌+◌, ℕ, true, false, ltb, eqb, not, cond, zero, suc, List, [], ◌∷◌, length, take, Option, Some, None, is_some, inl, inr, refl, ap, sym, subst, ◌∙◌, arith}
use Rattle.std.specs.List.{slice_get}
use Rattle.std.proofs.lemmas.Bool.{and_parts, both_ways, cases_order, eqb-true, not-true}
use Rattle.std.proofs.lemmas.List.{take-take}
use Rattle.std.proofs.lemmas.List.Folds.{list_any_at}
use Rattle.std.proofs.lemmas.List.Sums.{sum_by-cons}
use Rattle.std.proofs.lemmas.Option.{get_or_from_slice_get, slice_get_within}
use Rattle.omci_msg.specs.declared.request.Request.{Request}
use Rattle.bench_history.specs.History.{frames_in, has_ended, is_end_of, is_frame, is_open, is_sound}
use Rattle.bench_history.specs.declared.event.Event.{Event}
use Rattle.bench_history.specs.declared.event.Event.TheVariants.{Sent, Replied, Excused, Entered, Left, LeftOneOf, Strayed, Dropped, Lost, Waited, Ended, Nothing}
use Rattle.bench_history.specs.declared.extent.Extent.{Extent}
use Rattle.bench_sight.specs.Sight.{is_enough}
use Rattle.bench_judge.specs.Admitted.{AreAdmitted, IsAdmitted}
use Rattle.bench_judge.specs.Counted.{AreKnown, is_enough_of, is_known, is_known_in}
use Rattle.bench_judge.specs.Explained.{EndedFrame, IsEnded}
use Rattle.bench_judge.specs.Frames.{AreFrames, AreWithin, IsKeptIn, IsKeptOf}
use Rattle.bench_answers.specs.Asked.{requests_of}
use Rattle.bench_judge.specs.Walk.{AreSentBy, AreSound}
use Rattle.bench_answers.specs.Windows.{least_behind, most_behind}
use Rattle.bench_judge.specs.Scene.{AreAdmittedUpTo, AreFramesOf, IsEndOf, IsFrameOf}
use Rattle.bench_judge.specs.declared.frame.Frame.{Frame}
use Rattle.bench_judge.specs.Terms.{Terms}
use Rattle.bench_judge.proofs.Counted.{frames_front, frames_with}
use Rattle.bench_answers.proofs.Fronts.{most_grows}
use Rattle.bench_answers.proofs.Places.{element_at, front_get, get_in_front}
use Rattle.bench_answers.specs.Ground.{Ground}

-- ---- a frame is sent once, and ends once

sent_before : (events : List Event) (i j port : ℕ) (extent : Extent) (bytes : List ℕ) → slice_get events i ≡ Some (Entered port extent bytes)
    → frames_in (take i events) ≡ frames_in (take j events) → i < j → ⊥
sent_before events i j port extent bytes at same less =
    omega (arith, frames_with events i (Entered port extent bytes) at, frames_front events (i + 1) j (omega (arith, less)), same)

pub sent_once : (events : List Event) (i j one other : ℕ) (x y : Extent) (bytes more : List ℕ)
    → slice_get events i ≡ Some (Entered one x bytes) → slice_get events j ≡ Some (Entered other y more)
    → frames_in (take i events) ≡ frames_in (take j events) → i ≡ j
sent_once events i j one other x y bytes more at there same =
    elim (cases_order i j) [
      | inl is ↦ is
      | inr differ ↦ elim differ [
        | inl less ↦ absurd (sent_before events i j one x bytes at same less)
        | inr less ↦ absurd (sent_before events j i other y more there (sym same) less)
      ]
    ]

-- by one port, and known to one extent
same_sent : (events : List Event) (i j one other : ℕ) (x y : Extent) (bytes more : List ℕ) → i ≡ j
    → slice_get events i ≡ Some (Entered one x bytes) → slice_get events j ≡ Some (Entered other y more) → (one ≡ other) × (x ≡ y) × (bytes ≡ more)
same_sent events i j one other x y bytes more same at there =
    let is : Some (Entered one x bytes) ≡ Some (Entered other y more) = sym at ∙ ap (slice_get events) same ∙ there in
    (cc is, cc is, cc is)

-- an event ends the frame of one number
pub one_number : (a b : ℕ) (event : Event) → is_end_of a event ≡ true → is_end_of b event ≡ true → a ≡ b
one_number a b (Left gem extent number frame) is also = sym (eqb-true number a is) ∙ eqb-true number b also
one_number a b (Dropped number) is also = sym (eqb-true number a is) ∙ eqb-true number b also
one_number a b (Sent message) is also = absurd (cc is)
one_number a b (Replied reply) is also = absurd (cc is)
one_number a b (Excused reply) is also = absurd (cc is)
one_number a b (Lost number) is also = sym (eqb-true number a is) ∙ eqb-true number b also
one_number a b (LeftOneOf gem extent among) is also = absurd (cc is)
one_number a b (Strayed gem extent frame) is also = absurd (cc is)
one_number a b Ended is also = absurd (cc is)
one_number a b (Entered port extent frame) is also = absurd (cc is)
one_number a b (Waited replies) is also = absurd (cc is)
one_number a b Nothing is also = absurd (cc is)

not_yet : (n number : ℕ) (before : List Event) → eqb number n ≡ true → is_open number before ≡ true → has_ended n before ≡ false
not_yet n number before ends open_yet =
    ap (λ (k : ℕ). has_ended k before) (sym (eqb-true number n ends))
    ∙ not-true (has_ended number before) (and_parts (ltb number (frames_in before)) (not (has_ended number before)) open_yet).1

-- an event that ends a frame stands where it is open
open_before : (n : ℕ) (before : List Event) (event : Event) → is_end_of n event ≡ true → is_sound before event ≡ true → has_ended n before ≡ false
open_before n before (Left gem extent number bytes) ends sound = not_yet n number before ends sound
open_before n before (Dropped number) ends sound = not_yet n number before ends sound
open_before n before (Lost number) ends sound = not_yet n number before ends sound
open_before n before (Sent message) ends sound = cc ends
open_before n before (Replied reply) ends sound = cc ends
open_before n before (Excused reply) ends sound = cc ends
open_before n before (Entered port extent bytes) ends sound = cc ends
open_before n before (LeftOneOf gem extent among) ends sound = cc ends
open_before n before (Strayed gem extent bytes) ends sound = cc ends
open_before n before (Waited replies) ends sound = cc ends
open_before n before Ended ends sound = cc ends
open_before n before Nothing ends sound = cc ends

-- an event that ends a frame is among those of a front
has_ended_at : (events : List Event) (n place i : ℕ) (event : Event) → slice_get events i ≡ Some event → is_end_of n event ≡ true → i < place
    → has_ended n (take place events) ≡ true
has_ended_at events n place i event at ends less =
    let here : slice_get (take place events) i ≡ Some event = front_get place events i less ∙ at in
    list_any_at (is_end_of n) (take place events) i event (slice_get_within (take place events) i event here)
    (ap (is_end_of n) (get_or_from_slice_get (take place events) i event event here) ∙ ends)

ends_before : (events : List Event) (n i j : ℕ) (one other : Event) → AreSound events
    → slice_get events i ≡ Some one → slice_get events j ≡ Some other
    → is_end_of n one ≡ true → is_end_of n other ≡ true → i < j → ⊥
ends_before events n i j one other sound at there ends again less =
    both_ways (has_ended n (take j events)) (open_before n (take j events) other again (sound j other there)) (has_ended_at events n j i one at ends less)

ends_once : (events : List Event) (n i j : ℕ) (one other : Event) → AreSound events
    → slice_get events i ≡ Some one → slice_get events j ≡ Some other
    → is_end_of n one ≡ true → is_end_of n other ≡ true → i ≡ j
ends_once events n i j one other sound at there ends again =
    elim (cases_order i j) [
      | inl is ↦ is
      | inr differ ↦ elim differ [
        | inl less ↦ absurd (ends_before events n i j one other sound at there ends again less)
        | inr less ↦ absurd (ends_before events n j i other one sound there at again ends less)
      ]
    ]

-- ---- the frames

-- how a frame that has ended was kept at its end
kept_end : (grounds : Ground) (events : List Event) (place : ℕ) (f : EndedFrame) (frame : Frame) (e : Option ℕ) → AreSound events
    → f.ended < place → slice_get events f.ended ≡ Some f.seen → is_end_of f.number f.seen ≡ true → frame.is_enough ≡ true
    → IsEndOf grounds events place f.number frame e → (e ≡ Some f.ended) × (frame.most ≡ most_behind grounds (take f.ended events))
kept_end grounds events place f frame (Some end) sound less at ends enough is =
    let same : end ≡ f.ended = ends_once events f.number end f.ended is.seen f.seen sound is.at at is.is_end ends in
    (ap (λ (k : ℕ). Some k) same, is.most ∙ ap (λ (k : ℕ). most_behind grounds (take k events)) same)
kept_end grounds events place f frame None sound less at ends enough is =
    elim is.0 [
      | inl short ↦ absurd (both_ways frame.is_enough short enough)
      | inr open_yet ↦ absurd (both_ways (has_ended f.number (take place events)) open_yet (has_ended_at events f.number place f.ended f.seen at ends less))
    ]

frame_of_ended : (grounds : Ground) (events : List Event) (place : ℕ) (frames : List Frame) → AreSound events → AreFramesOf grounds events place frames
    → (f : EndedFrame) → IsEnded (take place events) f → IsKeptIn grounds (take place events) frames f
frame_of_ended grounds events place frames sound are f is =
    let sent = get_in_front place events f.sent (Entered f.port f.extent f.bytes) is.entered in
    let seen = get_in_front place events f.ended f.seen is.seen in
    let fronts : take f.sent (take place events) ≡ take f.sent events = take-take f.sent place events (omega (arith, sent.0)) in
    let ends : take f.ended (take place events) ≡ take f.ended events = take-take f.ended place events (omega (arith, seen.0)) in
    let number : f.number ≡ frames_in (take f.sent events) = is.number ∙ ap (λ (xs : List Event). frames_in xs) fronts in
    let within : f.number < length frames =
    omega (arith, number, are.count, frames_with events f.sent (Entered f.port f.extent f.bytes) sent.1, frames_front events (f.sent + 1) place (omega (arith, sent.0))) in
    let here = element_at frames f.number within in
    let frame : Frame = here.0 in
    let kept : IsFrameOf grounds events place f.number frame = are.each f.number frame here.1 in
    let same : frame.sent ≡ f.sent = sent_once events frame.sent f.sent frame.port f.port kept.extent f.extent kept.bytes f.bytes kept.entered sent.1 (kept.number ∙ number) in
    let one = same_sent events frame.sent f.sent frame.port f.port kept.extent f.extent kept.bytes f.bytes same kept.entered sent.1 in
    let enough : frame.is_enough ≡ true = kept.enough ∙ ap (λ e. is_enough e kept.bytes) one.1 ∙ ap (is_enough f.extent) one.2 ∙ is.enough in
    let end = kept_end grounds events place f frame frame.ended sound seen.0 seen.1 is.is_end enough kept.end in
    record {
      frame = frame;
      at = here.1;
      kept = record {
        sent = same;
        ended = end.0;
        port = one.0;
        least = kept.least ∙ ap (λ (k : ℕ). least_behind grounds (take k events)) same ∙ ap (λ (xs : List Event). least_behind grounds xs) (sym fronts);
        most = end.1 ∙ ap (λ (xs : List Event). most_behind grounds xs) (sym ends);
      };
    }

-- what is kept as ended has ended
ended_of_frame : (grounds : Ground) (events : List Event) (place n : ℕ) (frame : Frame) (e : Option ℕ) → frame.ended ≡ e → is_some e ≡ true
    → IsFrameOf grounds events place n frame → IsEndOf grounds events place n frame e → IsKeptOf grounds (take place events) n frame
ended_of_frame grounds events place n frame (Some end) same some kept is =
    let fronts : take frame.sent (take place events) ≡ take frame.sent events = take-take frame.sent place events (omega (arith, kept.within)) in
    let ends : take end (take place events) ≡ take end events = take-take end place events (omega (arith, is.within)) in
    record {
      f = record { sent = frame.sent; ended = end; number = n; port = frame.port; extent = kept.extent; bytes = kept.bytes; seen = is.seen };
      is = record {
        entered = front_get place events frame.sent kept.within ∙ kept.entered;
        number = sym kept.number ∙ ap (λ (xs : List Event). frames_in xs) (sym fronts);
        later = is.later;
        seen = front_get place events end is.within ∙ is.at;
        is_end = is.is_end;
        enough = sym kept.enough ∙ is.enough;
      };
      number = refl;
      kept = record {
        sent = refl;
        ended = same;
        port = refl;
        least = kept.least ∙ ap (λ (xs : List Event). least_behind grounds xs) (sym fronts);
        most = is.most ∙ ap (λ (xs : List Event). most_behind grounds xs) (sym ends);
      };
    }
ended_of_frame grounds events place n frame None same some kept is = cc some

pub whole_frames : (grounds : Ground) (events : List Event) (place : ℕ) (frames : List Frame) → AreSound events → AreFramesOf grounds events place frames
    → AreFrames grounds (take place events) frames
whole_frames grounds events place frames sound are = record {
  each = frame_of_ended grounds events place frames sound are;
  only = λ n frame at some.
      let kept : IsFrameOf grounds events place n frame = are.each n frame at in
      ended_of_frame grounds events place n frame frame.ended refl some kept kept.end;
}

-- ---- the greatest versions

within_of : (grounds : Ground) (events : List Event) (place n : ℕ) (frame : Frame) (e : Option ℕ) → IsEndOf grounds events place n frame e
    → frame.most ≤ most_behind grounds (take place events)
within_of grounds events place n frame (Some end) is = omega (arith, is.most, most_grows grounds events end place (omega (arith, is.within)))
within_of grounds events place n frame None is = omega (arith, is.1)

-- no version is behind all requests
pub whole_bounded : (grounds : Ground) (events : List Event) (place : ℕ) (requests : List Request) (frames : List Frame) → requests ≡ requests_of grounds (take place events)
    → AreFramesOf grounds events place frames → AreWithin requests frames
whole_bounded grounds events place requests frames same are n frame at =
    let within = within_of grounds events place n frame frame.ended (are.each n frame at).end in
    omega (arith, within, ap (λ (qs : List Request). length qs) same)

-- ---- of which frames enough is known

known_past : (events : List Event) (n : ℕ) → frames_in events ≤ n → is_known events n ≡ false
known_past [] n past = refl
known_past (Entered port extent bytes ∷ rest) zero past = let one = sum_by-cons (λ y. cond (is_frame y) 1 0) (Entered port extent bytes) rest in absurd (omega (arith, past, one))
known_past (Entered port extent bytes ∷ rest) (suc n) past =
    known_past rest n (let one = sum_by-cons (λ y. cond (is_frame y) 1 0) (Entered port extent bytes) rest in omega (arith, past, one))
known_past (Sent message ∷ rest) n past = known_past rest n past
known_past (Replied reply ∷ rest) n past = known_past rest n past
known_past (Excused reply ∷ rest) n past = known_past rest n past
known_past (Left gem extent number bytes ∷ rest) n past = known_past rest n past
known_past (LeftOneOf gem extent among ∷ rest) n past = known_past rest n past
known_past (Strayed gem extent bytes ∷ rest) n past = known_past rest n past
known_past (Dropped number ∷ rest) n past = known_past rest n past
known_past (Lost number ∷ rest) n past = known_past rest n past
known_past (Waited replies ∷ rest) n past = known_past rest n past
known_past (Ended ∷ rest) n past = known_past rest n past
known_past (Nothing ∷ rest) n past = known_past rest n past

known_at : (events : List Event) (i port : ℕ) (extent : Extent) (bytes : List ℕ) → slice_get events i ≡ Some (Entered port extent bytes)
    → is_known events (frames_in (take i events)) ≡ is_enough extent bytes
known_at [] i port extent bytes at = cc at
known_at (Entered p x b ∷ rest) zero port extent bytes at =
    let known : x ≡ extent = cc at in
    let same : b ≡ bytes = cc at in
    ap (λ e. is_enough e b) known ∙ ap (is_enough extent) same
known_at (Entered p x b ∷ rest) (suc i) port extent bytes at =
    let one : frames_in (Entered p x b ∷ take i rest) ≡ suc (frames_in (take i rest)) = sum_by-cons (λ y. cond (is_frame y) 1 0) (Entered p x b) (take i rest) ∙ omega arith in
    ap (is_known (Entered p x b ∷ rest)) one ∙ known_at rest i port extent bytes at
known_at (Sent message ∷ rest) zero port extent bytes at = cc at
known_at (Sent message ∷ rest) (suc i) port extent bytes at = known_at rest i port extent bytes at
known_at (Replied reply ∷ rest) zero port extent bytes at = cc at
known_at (Replied reply ∷ rest) (suc i) port extent bytes at = known_at rest i port extent bytes at
known_at (Excused reply ∷ rest) zero port extent bytes at = cc at
known_at (Excused reply ∷ rest) (suc i) port extent bytes at = known_at rest i port extent bytes at
known_at (Left gem x number b ∷ rest) zero port extent bytes at = cc at
known_at (Left gem x number b ∷ rest) (suc i) port extent bytes at = known_at rest i port extent bytes at
known_at (LeftOneOf gem x among ∷ rest) zero port extent bytes at = cc at
known_at (LeftOneOf gem x among ∷ rest) (suc i) port extent bytes at = known_at rest i port extent bytes at
known_at (Strayed gem x b ∷ rest) zero port extent bytes at = cc at
known_at (Strayed gem x b ∷ rest) (suc i) port extent bytes at = known_at rest i port extent bytes at
known_at (Dropped number ∷ rest) zero port extent bytes at = cc at
known_at (Dropped number ∷ rest) (suc i) port extent bytes at = known_at rest i port extent bytes at
known_at (Lost number ∷ rest) zero port extent bytes at = cc at
known_at (Lost number ∷ rest) (suc i) port extent bytes at = known_at rest i port extent bytes at
known_at (Waited replies ∷ rest) zero port extent bytes at = cc at
known_at (Waited replies ∷ rest) (suc i) port extent bytes at = known_at rest i port extent bytes at
known_at (Ended ∷ rest) zero port extent bytes at = cc at
known_at (Ended ∷ rest) (suc i) port extent bytes at = known_at rest i port extent bytes at
known_at (Nothing ∷ rest) zero port extent bytes at = cc at
known_at (Nothing ∷ rest) (suc i) port extent bytes at = known_at rest i port extent bytes at

pub whole_known : (grounds : Ground) (events : List Event) (place : ℕ) (frames : List Frame) → AreFramesOf grounds events place frames → AreKnown (take place events) frames
whole_known grounds events place frames are n = by (slice_get frames n) refl
  where
    past : (xs : List Frame) (k : ℕ) → slice_get xs k ≡ None → length xs ≤ k
    past [] k none = omega arith
    past (x ∷ xs) zero none = cc none
    past (x ∷ xs) (suc k) none = omega (arith, past xs k none)

    by : (o : Option Frame) → slice_get frames n ≡ o → is_known_in frames n ≡ is_known (take place events) n
    by (Some frame) at =
        let kept : IsFrameOf grounds events place n frame = are.each n frame at in
        let here : slice_get (take place events) frame.sent ≡ Some (Entered frame.port kept.extent kept.bytes) = front_get place events frame.sent kept.within ∙ kept.entered in
        let number : frames_in (take frame.sent (take place events)) ≡ n = ap (λ (xs : List Event). frames_in xs) (take-take frame.sent place events (omega (arith, kept.within))) ∙ kept.number in
        ap is_enough_of at ∙ kept.enough ∙ sym (known_at (take place events) frame.sent frame.port kept.extent kept.bytes here) ∙ ap (is_known (take place events)) number
    by None none = ap is_enough_of none ∙ sym (known_past (take place events) n (omega (arith, past frames n none, are.count)))

pub whole_sent : (grounds : Ground) (events : List Event) (place : ℕ) (frames : List Frame) → AreFramesOf grounds events place frames → AreSentBy grounds (take place events) frames
whole_sent grounds events place frames are n frame at =
    let kept : IsFrameOf grounds events place n frame = are.each n frame at in
    let fronts : take frame.sent (take place events) ≡ take frame.sent events = take-take frame.sent place events (omega (arith, kept.within)) in
    record {
      extent = kept.extent;
      bytes = kept.bytes;
      entered = front_get place events frame.sent kept.within ∙ kept.entered;
      number = sym kept.number ∙ ap (λ (xs : List Event). frames_in xs) (sym fronts);
      least = kept.least ∙ ap (λ (xs : List Event). least_behind grounds xs) (sym fronts);
    }

-- ---- what is admitted

pub whole_admitted : (terms : Terms) (events : List Event) (place : ℕ) → AreAdmittedUpTo terms events place → AreAdmitted terms (take place events)
whole_admitted terms events place admitted i event at =
    let there = get_in_front place events i event at in
    subst (λ (xs : List Event). IsAdmitted terms xs event) (sym (take-take i place events (omega (arith, there.0)))) (admitted i event there.0 there.1)
