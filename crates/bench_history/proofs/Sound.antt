-- What stays sound, where an event of a history is taken back: another one stands in its place.
use Rattle.std.proofs.Common.{◌≡◌, ℕ, zero, suc, ◌<◌, Bool, true, false, cond, List, [], ◌∷◌, get_or, take, refl, ap, sym, ◌∙◌, arith}
use Rattle.std.specs.Prelude.{◌≢◌, Some, None, nat_le, nat_lt, not, slice_get, slice_set}
use Rattle.std.specs.List.{count_by, list_all, list_any}
use Rattle.std.proofs.lemmas.Bool.{and_from, and_parts, ltb-false, ltb-true, not-true, not_from_false, or_from, or_parts}
use Rattle.std.proofs.lemmas.List.{take-set-le}
use Rattle.std.proofs.lemmas.List.Sums.{sum_by-set}
use Rattle.std.proofs.lemmas.Option.{get_or_from_slice_get, slice_get_within}
use Rattle.std.proofs.Math.Seq.{take-set-lt}
use Rattle.bench_history.specs.History.{frames_in, has_ended, is_end_of, is_frame, is_open, is_reply, is_sound, is_used_up, may_be_left, may_follow, replies_in}
use Rattle.bench_history.specs.declared.event.Event.{Event}
use Rattle.bench_history.specs.declared.event.Event.TheVariants.{Sent, Replied, Excused, Entered, Left, LeftOneOf, Strayed, Dropped, Lost, Waited, Ended, Nothing}

-- ---- what may follow is sound

all_still : {A : Type 0} (p q : A → Bool) → ((x : A) → p x ≡ true → q x ≡ true) → (xs : List A) → list_all p xs ≡ true → list_all q xs ≡ true
all_still p q more [] is = is
all_still p q more (x ∷ xs) is =
    let both = and_parts (p x) (list_all p xs) is in
    and_from (q x) (list_all q xs) (more x both.0) (all_still p q more xs both.1)

pub sound_if_it_follows : (before : List Event) (event : Event) → may_follow before event ≡ true → is_sound before event ≡ true
sound_if_it_follows before (Sent message) may = refl
sound_if_it_follows before (Replied reply) may = refl
sound_if_it_follows before (Excused reply) may = refl
sound_if_it_follows before (Entered port extent frame) may = refl
sound_if_it_follows before (Left gem extent number frame) may = (and_parts (is_open number before) _ (and_parts _ _ may).1).0
sound_if_it_follows before (LeftOneOf gem extent told) may =
    all_still (may_be_left before) (λ n. is_open n before) (λ n left. (and_parts (is_open n before) (not (is_used_up n before)) left).0) told.numbers
    (and_parts (list_all (may_be_left before) told.numbers) _ (and_parts _ _ may).1).0
sound_if_it_follows before (Strayed gem extent frame) may = refl
sound_if_it_follows before (Dropped number) may = (and_parts (is_open number before) _ (and_parts _ _ may).1).0
sound_if_it_follows before (Lost number) may = (and_parts (is_open number before) _ (and_parts _ _ may).1).0
sound_if_it_follows before (Waited None) may = refl
sound_if_it_follows before (Waited (Some replies)) may = (and_parts _ (nat_le replies (replies_in before)) may).1
sound_if_it_follows before Ended may = refl
sound_if_it_follows before Nothing may = refl

-- ---- one event for another

-- an event may stand in the place of another: it sends a frame where that does, is a reply where that is, and ends nothing
pub record IsStandIn (old new : Event) : Type 0 where
  pub frame : is_frame new ≡ is_frame old
  pub reply : is_reply new ≡ is_reply old
  pub ends : (n : ℕ) → is_end_of n new ≡ false
  pub sound : (before : List Event) → is_sound before new ≡ true

-- nothing stands in for what neither sends a frame nor is a reply
pub nothing_for : (old : Event) → is_frame old ≡ false → is_reply old ≡ false → IsStandIn old Nothing
nothing_for old frame reply = record { frame = sym frame; reply = sym reply; ends = λ n. refl; sound = λ before. refl }

-- a reply that is taken for the right one stands in for it
pub excused_for : (reply : List ℕ) → IsStandIn (Replied reply) (Excused reply)
excused_for reply = record { frame = refl; reply = refl; ends = λ n. refl; sound = λ before. refl }

none_more : {A : Type 0} (p : A → Bool) (xs : List A) (k : ℕ) (y : A) → p y ≡ false → list_any p xs ≡ false → list_any p (slice_set xs k y) ≡ false
none_more p [] k y fails none = none
none_more p (x ∷ xs) zero y fails none = or_from (p y) (list_any p xs) fails (or_parts (p x) (list_any p xs) none).1
none_more p (x ∷ xs) (suc k) y fails none =
    let neither = or_parts (p x) (list_any p xs) none in
    or_from (p x) (list_any p (slice_set xs k y)) neither.0 (none_more p xs k y fails neither.1)

-- what one element counts for
abbrev once : Bool → ℕ
once passes = cond passes 1 0

module _ (events : List Event) (k : ℕ) (old new : Event) (at : slice_get events k ≡ Some old) where
  same_count : (p : Event → Bool) → p new ≡ p old → count_by p (slice_set events k new) ≡ count_by p events
  same_count p same =
      let within = slice_get_within events k old at in
      let one : once (p (get_or events k old)) ≡ once (p old) = ap (λ (e : Event). once (p e)) (get_or_from_slice_get events k old old at) in
      let other : once (p new) ≡ once (p old) = ap once same in
      omega (arith, sum_by-set (λ (e : Event). once (p e)) events k new old within, one, other)

  -- as many frames are sent
  pub frames_stay : is_frame new ≡ is_frame old → frames_in (slice_set events k new) ≡ frames_in events
  frames_stay same = same_count is_frame same

  -- as many replies are seen
  pub replies_stay : is_reply new ≡ is_reply old → replies_in (slice_set events k new) ≡ replies_in events
  replies_stay same = same_count is_reply same

  -- an open frame stays open
  pub open_stays : (n : ℕ) → is_frame new ≡ is_frame old → is_end_of n new ≡ false → is_open n events ≡ true → is_open n (slice_set events k new) ≡ true
  open_stays n same none is =
      let both = and_parts (nat_lt n (frames_in events)) (not (has_ended n events)) is in
      let still : has_ended n (slice_set events k new) ≡ false = none_more (is_end_of n) events k new none (not-true (has_ended n events) both.1) in
      and_from (nat_lt n (frames_in (slice_set events k new))) (not (has_ended n (slice_set events k new)))
      (ap (λ m. nat_lt n m) (frames_stay same) ∙ both.0) (not_from_false (has_ended n (slice_set events k new)) still)

  -- what is sound behind them stays so
  pub sound_stays : IsStandIn old new → (event : Event) → is_sound events event ≡ true → is_sound (slice_set events k new) event ≡ true
  sound_stays in_place (Sent message) is = refl
  sound_stays in_place (Replied reply) is = refl
  sound_stays in_place (Excused reply) is = refl
  sound_stays in_place (Entered port extent frame) is = refl
  sound_stays in_place (Left gem extent number frame) is = open_stays number in_place.frame (in_place.ends number) is
  sound_stays in_place (LeftOneOf gem extent told) is =
      all_still (λ n. is_open n events) (λ n. is_open n (slice_set events k new)) (λ n. open_stays n in_place.frame (in_place.ends n)) told.numbers is
  sound_stays in_place (Strayed gem extent frame) is = refl
  sound_stays in_place (Dropped number) is = open_stays number in_place.frame (in_place.ends number) is
  sound_stays in_place (Lost number) is = open_stays number in_place.frame (in_place.ends number) is
  sound_stays in_place (Waited None) is = refl
  sound_stays in_place (Waited (Some replies)) is = ap (λ m. nat_le replies m) (replies_stay in_place.reply) ∙ is
  sound_stays in_place Ended is = refl
  sound_stays in_place Nothing is = refl

-- ---- all of a history

-- each event is sound behind those before it
abbrev pub AreSound : List Event → Type 0
AreSound events = (i : ℕ) (event : Event) → slice_get events i ≡ Some event → is_sound (take i events) event ≡ true

got_other : {A : Type 0} (xs : List A) (k i : ℕ) (y : A) → i ≢ k → slice_get (slice_set xs k y) i ≡ slice_get xs i
got_other [] k i y other = refl
got_other (x ∷ xs) zero zero y other = absurd (other refl)
got_other (x ∷ xs) zero (suc i) y other = refl
got_other (x ∷ xs) (suc k) zero y other = refl
got_other (x ∷ xs) (suc k) (suc i) y other = got_other xs k i y (λ same. other (ap (λ n. suc n) same))

got_it : {A : Type 0} (xs : List A) (k : ℕ) (x y : A) → slice_get xs k ≡ Some x → slice_get (slice_set xs k y) k ≡ Some y
got_it [] k x y at = cc at
got_it (z ∷ xs) zero x y at = refl
got_it (z ∷ xs) (suc k) x y at = got_it xs k x y at

got_before : {A : Type 0} (xs : List A) (k i : ℕ) → k < i → slice_get (take i xs) k ≡ slice_get xs k
got_before xs k zero lt = absurd (omega (arith, lt))
got_before [] k (suc i) lt = refl
got_before (x ∷ xs) zero (suc i) lt = refl
got_before (x ∷ xs) (suc k) (suc i) lt = got_before xs k i (omega (arith, lt))

module _ (events : List Event) (k : ℕ) (old new : Event) (at : slice_get events k ≡ Some old) (in_place : IsStandIn old new) (are : AreSound events) where
  sound_before : (i : ℕ) (event : Event) → i < k → slice_get (slice_set events k new) i ≡ Some event → is_sound (take i (slice_set events k new)) event ≡ true
  sound_before i event lt got =
      let same = got_other events k i new (λ is. absurd (omega (arith, lt, is))) in
      ap (λ (before : List Event). is_sound before event) (take-set-le i events k new (omega (arith, lt))) ∙ are i event (sym same ∙ got)

  sound_there : (i : ℕ) (event : Event) → i ≡ k → slice_get (slice_set events k new) i ≡ Some event → is_sound (take i (slice_set events k new)) event ≡ true
  sound_there i event is got =
      let same : new ≡ event = cc (sym (got_it events k old new at) ∙ ap (λ n. slice_get (slice_set events k new) n) (sym is) ∙ got) in
      ap (λ (e : Event). is_sound (take i (slice_set events k new)) e) (sym same) ∙ in_place.sound (take i (slice_set events k new))

  sound_behind : (i : ℕ) (event : Event) → k < i → slice_get (slice_set events k new) i ≡ Some event → is_sound (take i (slice_set events k new)) event ≡ true
  sound_behind i event lt got =
      let same = got_other events k i new (λ is. absurd (omega (arith, lt, is))) in
      ap (λ (before : List Event). is_sound before event) (take-set-lt i events k new lt)
      ∙ sound_stays (take i events) k old new (got_before events k i lt ∙ at) in_place event (are i event (sym same ∙ got))

  -- a history stays sound
  pub all_sound_stay : AreSound (slice_set events k new)
  all_sound_stay i event got = by_place (nat_lt i k) (nat_lt k i) refl refl
    where
      by_place : (before behind : Bool) → nat_lt i k ≡ before → nat_lt k i ≡ behind → is_sound (take i (slice_set events k new)) event ≡ true
      by_place true behind lt is = sound_before i event (ltb-true i k lt) got
      by_place false true is lt = sound_behind i event (ltb-true k i lt) got
      by_place false false ge le = sound_there i event (omega (arith, ltb-false i k ge, ltb-false k i le)) got
