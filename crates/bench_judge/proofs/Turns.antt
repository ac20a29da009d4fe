-- The first event that leaves no choice ends a frame.
use Rattle.std.proofs.Common.{◌≡◌, ◌==◌, ℕ, zero, suc, ◌+◌, ◌<◌, ◌≤◌, Bool, true, false, ◌&&◌, not, nat_lt, List, [], ◌∷◌, length, take, None, Some, slice_get, refl, ap, sym, ◌∙◌, arith, take-take, true≢false, cond}
use Rattle.std.proofs.lemmas.Bool.{ltb-true, ltb-false}
use Rattle.std.proofs.lemmas.Option.{same_Some}
use Rattle.std.proofs.lemmas.List.Sums.{sum_by-cons}
use Rattle.std.proofs.lemmas.Bool.Decides.{Decides-eqb}
use Rattle.bench_history.specs.History.{frames_in, has_ended, is_end_of, is_frame, is_open, is_sound}
use Rattle.bench_history.specs.declared.event.Event.{Event}
use Rattle.bench_history.specs.declared.event.Event.TheVariants.{Sent, Replied, Excused, Entered, Left, LeftOneOf, Strayed, Dropped, Lost, Waited, Ended, Nothing}
use Rattle.bench_history.specs.declared.extent.Extent.{Extent}
use Rattle.bench_sight.specs.Sight.{is_enough}
use Rattle.bench_judge.specs.Explained.{EndedFrame, IsEnded}
use Rattle.bench_judge.specs.Cut.{HasChoice, IsTurn}
use Rattle.bench_judge.specs.Walk.{AreSound}
use Rattle.bench_judge.proofs.Fronts.{ended_in_front, ended_of_front, version_in_front, version_of_front}
use Rattle.bench_judge.proofs.Lists.{in_front}
use Rattle.bench_judge.proofs.Whole.{one_number, sent_once}
use Rattle.bench_answers.specs.Ground.{Ground}

-- the event that sends the frame of a number
pub record SendsAt (events : List Event) (n : ℕ) : Type 0 where
  pub place : ℕ
  pub port : ℕ
  pub extent : Extent
  pub bytes : List ℕ
  pub at : slice_get events place ≡ Some (Entered port extent bytes)
  pub number : n ≡ frames_in (take place events)

entered_count : (port : ℕ) (extent : Extent) (bytes : List ℕ) (events : List Event) → frames_in (Entered port extent bytes ∷ events) ≡ 1 + frames_in events
entered_count port extent bytes events = sum_by-cons (λ y. cond (is_frame y) 1 0) (Entered port extent bytes) events

behind_frame : (port : ℕ) (extent : Extent) (bytes : List ℕ) (events : List Event) (n : ℕ) → SendsAt events n
    → SendsAt (Entered port extent bytes ∷ events) (suc n)
behind_frame port extent bytes events n s =
    let one = entered_count port extent bytes (take s.place events) in
    record { place = suc s.place; port = s.port; extent = s.extent; bytes = s.bytes; at = s.at; number = omega (arith, s.number, one) }

behind_other : (event : Event) (events : List Event) (n : ℕ) → ((l : List Event) → frames_in (event ∷ l) ≡ frames_in l) → SendsAt events n → SendsAt (event ∷ events) n
behind_other event events n other s =
    record { place = suc s.place; port = s.port; extent = s.extent; bytes = s.bytes; at = s.at; number = s.number ∙ sym (other (take s.place events)) }

-- each number under the count is that of a frame that was sent
pub sends_at : (events : List Event) (n : ℕ) → n < frames_in events → SendsAt events n
sends_at [] n lt = absurd (omega (arith, lt))
sends_at (Entered port extent bytes ∷ events) zero lt = record { place = zero; port = port; extent = extent; bytes = bytes; at = refl; number = refl }
sends_at (Entered port extent bytes ∷ events) (suc n) lt =
    behind_frame port extent bytes events n (sends_at events n (let one = entered_count port extent bytes events in omega (arith, lt, one)))
sends_at (Sent message ∷ events) n lt = behind_other (Sent message) events n (λ l. refl) (sends_at events n lt)
sends_at (Replied reply ∷ events) n lt = behind_other (Replied reply) events n (λ l. refl) (sends_at events n lt)
sends_at (Excused reply ∷ events) n lt = behind_other (Excused reply) events n (λ l. refl) (sends_at events n lt)
sends_at (Left gem extent number frame ∷ events) n lt = behind_other (Left gem extent number frame) events n (λ l. refl) (sends_at events n lt)
sends_at (LeftOneOf gem extent among ∷ events) n lt = behind_other (LeftOneOf gem extent among) events n (λ l. refl) (sends_at events n lt)
sends_at (Strayed gem extent frame ∷ events) n lt = behind_other (Strayed gem extent frame) events n (λ l. refl) (sends_at events n lt)
sends_at (Dropped number ∷ events) n lt = behind_other (Dropped number) events n (λ l. refl) (sends_at events n lt)
sends_at (Lost number ∷ events) n lt = behind_other (Lost number) events n (λ l. refl) (sends_at events n lt)
sends_at (Ended ∷ events) n lt = behind_other Ended events n (λ l. refl) (sends_at events n lt)
sends_at (Waited replies ∷ events) n lt = behind_other (Waited replies) events n (λ l. refl) (sends_at events n lt)
sends_at (Nothing ∷ events) n lt = behind_other Nothing events n (λ l. refl) (sends_at events n lt)

-- an event at a place ends a frame
pub record EndsAt (events : List Event) (place : ℕ) : Type 0 where
  pub f : EndedFrame
  pub is : IsEnded events f
  pub ended : f.ended ≡ place

both : (a b : Bool) → a && b ≡ true → a ≡ true
both true b is = refl
both false b is = cc is

same_number : (n : ℕ) → (n == n) ≡ true
same_number n = (Decides-eqb n n).1 refl

-- an event that ends an open frame ends it here, or too little is known of the frame
data EndsOrNot (events : List Event) (place n : ℕ) : Type 0 where
  ends_there : EndsAt events place → EndsOrNot events place n
  unknown : (s : SendsAt (take place events) n) → is_enough s.extent s.bytes ≡ false → EndsOrNot events place n

ends_here : (events : List Event) (place n : ℕ) (event : Event) → slice_get events place ≡ Some event → is_end_of n event ≡ true
    → is_open n (take place events) ≡ true → EndsOrNot events place n
ends_here events place n event at is_end is_open =
    by (is_enough s.extent s.bytes) refl
  where
    s : SendsAt (take place events) n
    s = sends_at (take place events) n (ltb-true n (frames_in (take place events)) (both (nat_lt n (frames_in (take place events))) (not (has_ended n (take place events))) is_open))

    sent : (s.place < place) × (slice_get events s.place ≡ Some (Entered s.port s.extent s.bytes))
    sent = in_front place s.place events (Entered s.port s.extent s.bytes) s.at

    by : (b : Bool) → is_enough s.extent s.bytes ≡ b → EndsOrNot events place n
    by false short = unknown s short
    by true enough = ends_there (record {
      f = record { sent = s.place; ended = place; number = n; port = s.port; extent = s.extent; bytes = s.bytes; seen = event };
      is = record {
        entered = sent.1;
        number = s.number ∙ ap frames_in (take-take s.place place events (omega (arith, sent.0)));
        later = sent.0;
        seen = at;
        is_end = is_end;
        enough = enough;
      };
      ended = refl;
    })

-- where the event at a place ends no frame, versions for those that end before are versions for all
carried : (grounds : Ground) {padded : Bool} (unordered : Bool) (events : List Event) (place : ℕ) → ((f : EndedFrame) → IsEnded (take (place + 1) events) f → f.ended < place)
    → HasChoice grounds padded unordered (take place events) → HasChoice grounds padded unordered (take (place + 1) events)
carried grounds unordered events place before choice =
    let shorter : (f : EndedFrame) → IsEnded (take (place + 1) events) f → IsEnded (take place events) f =
    λ f is. ended_in_front place events f (before f is) (ended_of_front (place + 1) events f is).1 in (
      choice.0,
      record {
        each = λ f is.
            let lt = before f is in
            version_in_front grounds (place + 1) (choice.0 f.number) events f is.later (omega (arith, lt))
            (version_of_front grounds place (choice.0 f.number) events f is.later lt (choice.1.each f (shorter f is)));
        ordered = λ order f g is_f is_g port lt. choice.1.ordered order f g (shorter f is_f) (shorter g is_g) port lt;
      },
    )

no_end : (events : List Event) (place : ℕ) → ((f : EndedFrame) → IsEnded (take (place + 1) events) f → f.ended ≡ place → ⊥)
    → (f : EndedFrame) → IsEnded (take (place + 1) events) f → f.ended < place
no_end events place none f is =
    let all = ended_of_front (place + 1) events f is in
    elim (nat_lt f.ended place) as (λ b. nat_lt f.ended place ≡ b → f.ended < place) [
      | true ↦ λ lt. ltb-true f.ended place lt
      | false ↦ λ over. absurd (none f is (not_under f.ended place over (omega (arith, all.0))))
    ] refl
  where
    not_under : (a b : ℕ) → nat_lt a b ≡ false → a ≤ b → a ≡ b
    not_under a b over le = let ge = ltb-false a b over in omega (arith, ge, le)

-- the event at a place is the end of a frame that ends there
seen_here : (events : List Event) (place : ℕ) (event : Event) (f : EndedFrame) → slice_get events place ≡ Some event
    → IsEnded (take (place + 1) events) f → f.ended ≡ place → is_end_of f.number event ≡ true
seen_here events place event f at is here =
    let all = ended_of_front (place + 1) events f is in
    let same : Some event ≡ Some f.seen = sym at ∙ ap (slice_get events) (sym here) ∙ all.1.seen in
    ap (is_end_of f.number) (same_Some event f.seen same) ∙ is.is_end

-- one of which too little is known doesn't end there
none_known : (events : List Event) (place n : ℕ) (event : Event) → slice_get events place ≡ Some event → is_end_of n event ≡ true
    → (s : SendsAt (take place events) n) → is_enough s.extent s.bytes ≡ false
    → (f : EndedFrame) → IsEnded (take (place + 1) events) f → f.ended ≡ place → ⊥
none_known events place n event at is_end s short f is here =
    let all = ended_of_front (place + 1) events f is in
    let sent = in_front place s.place events (Entered s.port s.extent s.bytes) s.at in
    let number : n ≡ f.number = one_number n f.number event is_end (seen_here events place event f at is here) in
    let fronts : frames_in (take s.place events) ≡ frames_in (take f.sent events) =
    ap frames_in (sym (take-take s.place place events (omega (arith, sent.0)))) ∙ sym s.number ∙ number ∙ all.1.number in
    let same : s.place ≡ f.sent = sent_once events s.place f.sent s.port f.port s.extent f.extent s.bytes f.bytes sent.1 all.1.entered fronts in
    let known : is_enough s.extent s.bytes ≡ is_enough f.extent f.bytes =
    known_same s.port f.port s.extent f.extent s.bytes f.bytes (sym sent.1 ∙ ap (slice_get events) same ∙ all.1.entered) in
    true≢false (sym is.enough ∙ sym known ∙ short)
  where
    known_same : (p q : ℕ) (x y : Extent) (a b : List ℕ) → Some (Entered p x a) ≡ Some (Entered q y b) → is_enough x a ≡ is_enough y b
    known_same p q x y a b same =
        let extent : x ≡ y = cc same in
        let bytes : a ≡ b = cc same in
        ap (λ e. is_enough e a) extent ∙ ap (is_enough y) bytes

-- the first event that leaves no choice ends a frame
pub turn_ends : (grounds : Ground) {padded : Bool} (unordered : Bool) (events : List Event) (place : ℕ) → AreSound events → place < length events → IsTurn grounds padded unordered events place → EndsAt events place
turn_ends grounds {padded} unordered events place sound within turn =
    elim (slice_get events place) as (λ o. slice_get events place ≡ o → EndsAt events place) [
      | None ↦ λ none. absurd (past events place within none)
      | Some event ↦ λ at. by_event event at (sound place event at)
    ] refl
  where
    past : {A : Type 0} (xs : List A) (n : ℕ) → n < length xs → slice_get xs n ≡ None → ⊥
    past [] n lt none = absurd (omega (arith, lt))
    past (x ∷ xs) zero lt none = absurd (cc none)
    past (x ∷ xs) (suc n) lt none = past xs n (omega (arith, lt)) none

    carries : (event : Event) → slice_get events place ≡ Some event → ((n : ℕ) → is_end_of n event ≡ false) → EndsAt events place
    carries event at none =
        absurd (turn.behind (carried grounds unordered events place
        (no_end events place (λ f is here. true≢false (sym (seen_here events place event f at is here) ∙ none f.number))) turn.before))

    ends : (n : ℕ) (event : Event) → slice_get events place ≡ Some event → is_end_of n event ≡ true → is_open n (take place events) ≡ true
        → EndsAt events place
    ends n event at is_end open_yet =
        elim (ends_here events place n event at is_end open_yet) [
          | ends_there here ↦ here
          | unknown s short ↦ absurd (turn.behind (carried grounds unordered events place (no_end events place (none_known events place n event at is_end s short)) turn.before))
        ]

    by_event : (event : Event) → slice_get events place ≡ Some event → is_sound (take place events) event ≡ true → EndsAt events place
    by_event (Left gem extent number frame) at sound = ends number (Left gem extent number frame) at (same_number number) sound
    by_event (Dropped number) at sound = ends number (Dropped number) at (same_number number) sound
    by_event (Lost number) at sound = ends number (Lost number) at (same_number number) sound
    by_event (Sent message) at sound = carries (Sent message) at (λ n. refl)
    by_event (Replied reply) at sound = carries (Replied reply) at (λ n. refl)
    by_event (Excused reply) at sound = carries (Excused reply) at (λ n. refl)
    by_event (Entered port extent frame) at sound = carries (Entered port extent frame) at (λ n. refl)
    by_event (LeftOneOf gem extent among) at sound = carries (LeftOneOf gem extent among) at (λ n. refl)
    by_event (Strayed gem extent frame) at sound = carries (Strayed gem extent frame) at (λ n. refl)
    by_event (Waited replies) at sound = carries (Waited replies) at (λ n. refl)
    by_event Ended at sound = carries Ended at (λ n. refl)
    by_event Nothing at sound = carries Nothing at (λ n. refl)
