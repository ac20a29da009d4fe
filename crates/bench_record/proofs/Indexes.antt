-- The queues of open frames, when a frame is sent, when queues are cleared, and when fewer frames are open.
use Rattle.std.proofs.Common.{◌≡◌, ◌≤◌, ◌<◌, ◌+◌, ℕ, zero, suc, ◌&&◌, Bool, true, false, not, cond, List, [], ◌∷◌, ◌++◌, length, Option, Some, None, refl, ap, sym, ◌∙◌, arith, subst}
use Rattle.std.specs.Prelude.{filter, nat_lt, if◌then◌else◌, slice_get}
use Rattle.std.specs.List.{list_all, range_with_len}
use Rattle.std.specs.Str.{bytes_eq}
use Rattle.std.proofs.lemmas.Bool.{and_from, and_parts, lt-ltb, ltb-true}
use Rattle.std.proofs.lemmas.List.{append-nil, length-append, map-id}
use Rattle.std.proofs.lemmas.List.Elements.{filter-append}
use Rattle.std.proofs.lemmas.List.Folds.{list_all-append}
use Rattle.std.proofs.lemmas.List.FromFn.{map-range_with_len_more}
use Rattle.std.proofs.lemmas.Slice.Eq.{bytes_eq-Decides}
use Rattle.bench_record.specs.Index.{IsIndex, has_key, key_rest, open_of, queue_of}
use Rattle.bench_record.specs.Keys.{is_same_key}
use Rattle.bench_record.specs.Matching.{Frames, SentFrame, is_lost_before, is_open, is_used_up, is_waiting, later}
use Rattle.bench_record.specs.declared.core_key.CoreKey.{CoreKey}
use Rattle.bench_record.specs.declared.open_frames.OpenFrames.{OpenFrames}
use Rattle.bench_record.proofs.Filters.{filter_alike, filter_below, filter_both, stricter, stricter_of}

-- ---- time

not_later : (lost : Option ℕ) (sent time t : ℕ) → time ≤ t → not (is_lost_before lost sent t) ≡ true → not (is_lost_before lost sent time) ≡ true
not_later (Some lost) sent time t within late = grind arith
not_later None sent time t within late = refl

waiting_before : (lost : Option ℕ) (sent : Option SentFrame) (time t : ℕ) → time ≤ t → is_waiting lost t sent ≡ true → is_waiting lost time sent ≡ true
waiting_before lost (Some sent) time t within is =
    let parts = and_parts (not sent.has_left) (not (is_lost_before lost sent.time t)) is in
    and_from (not sent.has_left) (not (is_lost_before lost sent.time time)) parts.0 (not_later lost sent.time time t within parts.1)
waiting_before lost None time t within is = is

-- what is open at a time was open before
pub open_before : (lost : Option ℕ) (frames : Frames) (time t n : ℕ) → time ≤ t → is_open lost t frames n ≡ true → is_open lost time frames n ≡ true
open_before lost frames time t n within is =
    let parts = and_parts (is_waiting lost t (slice_get frames.sent n)) (not (is_used_up frames.named n)) is in
    and_from (is_waiting lost time (slice_get frames.sent n)) (not (is_used_up frames.named n))
    (waiting_before lost (slice_get frames.sent n) time t within parts.0) parts.1

pub index_later : (lost : Option ℕ) (since time shortest : ℕ) (frames : Frames) (index : OpenFrames) → since ≤ time → IsIndex lost since shortest frames index
    → IsIndex lost time shortest frames index
index_later lost since time shortest frames index within is =
    record { within = is.within; still_open = λ key t later. is.still_open key t (omega (arith, within, later)) }

-- ---- fewer are open

-- of other frames with the same cores no other is open
pub record IsFewerOpen (lost : Option ℕ) (old new : Frames) : Type 0 where
  pub count : length new.sent ≡ length old.sent
  pub fewer : (t n : ℕ) → is_open lost t new n ≡ true → is_open lost t old n ≡ true
  pub keys : (shortest : ℕ) (key : CoreKey) (n : ℕ) → has_key shortest key (slice_get new.sent n) ≡ has_key shortest key (slice_get old.sent n)

pub fewer_open : (lost : Option ℕ) (since shortest : ℕ) (old new : Frames) (index : OpenFrames) → IsFewerOpen lost old new
    → IsIndex lost since shortest old index → IsIndex lost since shortest new index
fewer_open lost since shortest old new index fewer is =
    record {
      within = λ key. subst (λ (len : ℕ). list_all (λ n. nat_lt n len) (queue_of index key) ≡ true) (sym fewer.count) (is.within key);
      still_open = λ key t later.
          let was : ℕ → Bool = is_open lost t old in
          let now : ℕ → Bool = is_open lost t new in
          let queue : List ℕ = queue_of index key in
          let all : List ℕ = range_with_len 0 (length old.sent) in
          filter_alike now (λ n. was n && now n) (λ n. sym (stricter (was n) (now n) (fewer.fewer t n))) queue
          ∙ sym (filter_both was now queue)
          ∙ ap (λ (xs : List ℕ). filter now xs) (is.still_open key t later)
          ∙ filter_both (λ n. was n && has_key shortest key (slice_get old.sent n)) now all
          ∙ filter_alike (λ n. (was n && has_key shortest key (slice_get old.sent n)) && now n) (λ n. now n && has_key shortest key (slice_get new.sent n))
          (λ n.
          stricter_of (was n) (has_key shortest key (slice_get old.sent n)) (now n) (fewer.fewer t n)
          ∙ ap (λ (b : Bool). now n && b) (sym (fewer.keys shortest key n)))
          all
          ∙ ap (λ (len : ℕ). filter (λ n. now n && has_key shortest key (slice_get new.sent n)) (range_with_len 0 len)) (sym fewer.count);
    }

-- ---- keys

one_key : (x y : CoreKey) → is_same_key x y ≡ true → (x.addresses.now ≡ y.addresses.now) × (x.rest.now ≡ y.rest.now)
one_key x y is =
    let parts = and_parts (bytes_eq x.addresses.now y.addresses.now) (bytes_eq x.rest.now y.rest.now) is in
    ((bytes_eq-Decides x.addresses.now y.addresses.now).0 parts.0, (bytes_eq-Decides x.rest.now y.rest.now).0 parts.1)

has_key_by : (shortest : ℕ) (sent : Option SentFrame) (x y : CoreKey) → x.addresses.now ≡ y.addresses.now → x.rest.now ≡ y.rest.now → has_key shortest x sent ≡ has_key shortest y sent
has_key_by shortest (Some sent) x y addresses rest =
    ap (λ (a : List ℕ). bytes_eq sent.core.addresses a && bytes_eq (key_rest shortest sent.core.rest) x.rest.now) addresses
    ∙ ap (λ (r : List ℕ). bytes_eq sent.core.addresses y.addresses.now && bytes_eq (key_rest shortest sent.core.rest) r) rest
has_key_by shortest None x y addresses rest = refl

-- ---- a queue is cleared of frames that aren't open

all_kept : (p q : ℕ → Bool) (xs : List ℕ) → list_all q xs ≡ true → list_all q (filter p xs) ≡ true
all_kept p q [] all = refl
all_kept p q (x ∷ xs) all = here (p x) (and_parts (q x) (list_all q xs) all) (all_kept p q xs (and_parts (q x) (list_all q xs) all).1)
  where
    here : (b : Bool) → (q x ≡ true) × (list_all q xs ≡ true) → list_all q (filter p xs) ≡ true → list_all q (cond b (x ∷ filter p xs) (filter p xs)) ≡ true
    here true parts later = and_from (q x) (list_all q (filter p xs)) parts.0 later
    here false parts later = later

-- the queue of a key has those that are open at a time, and the others are as they were
abbrev pub IsCleared : Option ℕ → ℕ → Frames → CoreKey → OpenFrames → OpenFrames → Type 0
IsCleared lost time frames key old new =
    (other : CoreKey) → queue_of new other
    ≡ (if is_same_key key other then filter (is_open lost time frames) (queue_of old key) else queue_of old other)

module _ (lost : Option ℕ) (time shortest : ℕ) (frames : Frames) (key : CoreKey) (old : OpenFrames) (is : IsIndex lost time shortest frames old) where
  cleared_within : (other : CoreKey) (b : Bool)
      → list_all (λ n. nat_lt n (length frames.sent)) (if b then filter (is_open lost time frames) (queue_of old key) else queue_of old other) ≡ true
  cleared_within other true = all_kept (is_open lost time frames) (λ n. nat_lt n (length frames.sent)) (queue_of old key) (is.within key)
  cleared_within other false = is.within other

  cleared_open : (other : CoreKey) (t : ℕ) → time ≤ t → (b : Bool) → is_same_key key other ≡ b
      → filter (is_open lost t frames) (if b then filter (is_open lost time frames) (queue_of old key) else queue_of old other)
      ≡ open_of lost t shortest frames other
  cleared_open other t later true same =
      let keys = one_key key other same in
      filter_both (is_open lost time frames) (is_open lost t frames) (queue_of old key)
      ∙ filter_alike (λ n. is_open lost time frames n && is_open lost t frames n) (is_open lost t frames)
      (λ n. stricter (is_open lost time frames n) (is_open lost t frames n) (open_before lost frames time t n later)) (queue_of old key)
      ∙ is.still_open key t later
      ∙ filter_alike (λ n. is_open lost t frames n && has_key shortest key (slice_get frames.sent n))
      (λ n. is_open lost t frames n && has_key shortest other (slice_get frames.sent n))
      (λ n. ap (λ (b : Bool). is_open lost t frames n && b) (has_key_by shortest (slice_get frames.sent n) key other keys.0 keys.1)) (range_with_len 0 (length frames.sent))
  cleared_open other t later false same = is.still_open other t later

pub cleared : (lost : Option ℕ) (time shortest : ℕ) (frames : Frames) (key : CoreKey) (old new : OpenFrames) → IsCleared lost time frames key old new
    → IsIndex lost time shortest frames old → IsIndex lost time shortest frames new
cleared lost time shortest frames key old new are is =
    record {
      within = λ other.
          subst (λ (queue : List ℕ). list_all (λ n. nat_lt n (length frames.sent)) queue ≡ true) (sym (are other))
          (cleared_within lost time shortest frames key old is other (is_same_key key other));
      still_open = λ other t later.
          ap (λ (queue : List ℕ). filter (is_open lost t frames) queue) (are other)
          ∙ cleared_open lost time shortest frames key old is other t later (is_same_key key other) refl;
    }

-- ---- a frame is sent

range_more : (a n : ℕ) → range_with_len a (n + 1) ≡ range_with_len a n ++ (a + n) ∷ []
range_more a n = sym (map-id (range_with_len a (n + 1))) ∙ map-range_with_len_more (λ (k : ℕ). k) a n (a + n) refl ∙ ap (λ (xs : List ℕ). xs ++ (a + n) ∷ []) (map-id (range_with_len a n))

range_below : (a n m : ℕ) → a + n ≤ m → list_all (λ k. nat_lt k m) (range_with_len a n) ≡ true
range_below a zero m le = refl
range_below a (suc n) m le = and_from (nat_lt a m) (list_all (λ k. nat_lt k m) (range_with_len (a + 1) n)) (lt-ltb a m (omega (arith, le))) (range_below (a + 1) n m (omega (arith, le)))

get_front : {X : Type 0} (xs : List X) (x : X) (n : ℕ) → n < length xs → slice_get (xs ++ x ∷ []) n ≡ slice_get xs n
get_front [] x n within = absurd (omega (arith, within))
get_front (y ∷ xs) x zero within = refl
get_front (y ∷ xs) x (suc n) within = get_front xs x n (omega (arith, within))

get_last : {X : Type 0} (xs : List X) (x : X) → slice_get (xs ++ x ∷ []) (length xs) ≡ Some x
get_last [] x = refl
get_last (y ∷ xs) x = get_last xs x

nothing_more : (n : ℕ) → 0 + n ≡ n
nothing_more n = omega arith

module _ (lost : Option ℕ) (shortest : ℕ) (frames : Frames) (x : SentFrame) where
  abbrev pub more : Frames
  more = record frames { sent = frames.sent ++ x ∷ [] }

  abbrev count : ℕ
  count = length frames.sent

  open_same : (t n : ℕ) → n < count → is_open lost t more n ≡ is_open lost t frames n
  open_same t n less = ap (λ (o : Option SentFrame). is_waiting lost t o && not (is_used_up frames.named n)) (get_front frames.sent x n less)

  -- the frame itself, if it is open and has a key
  abbrev itself : ℕ → CoreKey → List ℕ
  itself t key = cond (is_open lost t more count && has_key shortest key (Some x)) (count ∷ []) []

  open_more : (t : ℕ) (key : CoreKey) → open_of lost t shortest more key ≡ open_of lost t shortest frames key ++ itself t key
  open_more t key =
      let now : ℕ → Bool = λ n. is_open lost t more n && has_key shortest key (slice_get more.sent n) in
      let was : ℕ → Bool = λ n. is_open lost t frames n && has_key shortest key (slice_get frames.sent n) in
      ap (λ (len : ℕ). filter now (range_with_len 0 len)) (length-append frames.sent (x ∷ []))
      ∙ ap (λ (xs : List ℕ). filter now xs) (range_more 0 count)
      ∙ ap (λ (n : ℕ). filter now (range_with_len 0 count ++ n ∷ [])) (nothing_more count)
      ∙ filter-append now (range_with_len 0 count) (count ∷ [])
      ∙ ap (λ (xs : List ℕ). xs ++ cond (now count) (count ∷ []) [])
      (filter_below count now was
      (λ n less.
      ap (λ (b : Bool). b && has_key shortest key (slice_get more.sent n)) (open_same t n less)
      ∙ ap (λ (o : Option SentFrame). is_open lost t frames n && has_key shortest key o) (get_front frames.sent x n less))
      (range_with_len 0 count) (range_below 0 count count (omega arith)))
      ∙ ap (λ (o : Option SentFrame). open_of lost t shortest frames key ++ cond (is_open lost t more count && has_key shortest key o) (count ∷ []) [])
      (get_last frames.sent x)

  queue_more : (t : ℕ) (old : List ℕ) → list_all (λ n. nat_lt n count) old ≡ true
      → filter (is_open lost t more) (old ++ count ∷ []) ≡ filter (is_open lost t frames) old ++ cond (is_open lost t more count) (count ∷ []) []
  queue_more t old below =
      filter-append (is_open lost t more) old (count ∷ [])
      ∙ ap (λ (xs : List ℕ). xs ++ cond (is_open lost t more count) (count ∷ []) []) (filter_below count (is_open lost t more) (is_open lost t frames) (open_same t) old below)

  itself_by : (t : ℕ) (key : CoreKey) (b : Bool) → has_key shortest key (Some x) ≡ b → itself t key ≡ cond (is_open lost t more count && b) (count ∷ []) []
  itself_by t key b is = ap (λ (c : Bool). cond (is_open lost t more count && c) (count ∷ []) []) is

  and_true : (b : Bool) → (b && true) ≡ b
  and_true true = refl
  and_true false = refl

  and_false : (b : Bool) → (b && false) ≡ false
  and_false true = refl
  and_false false = refl

  wider : (queue : List ℕ) → list_all (λ n. nat_lt n count) queue ≡ true → list_all (λ n. nat_lt n (length more.sent)) queue ≡ true
  wider [] below = refl
  wider (n ∷ queue) below =
      let parts = and_parts (nat_lt n count) (list_all (λ m. nat_lt m count) queue) below in
      and_from (nat_lt n (length more.sent)) (list_all (λ m. nat_lt m (length more.sent)) queue)
      (lt-ltb n (length more.sent) (omega (arith, ltb-true n count parts.0, length-append frames.sent (x ∷ [])))) (wider queue parts.1)

  module _ (since : ℕ) (key : CoreKey) (old new : OpenFrames)
      (sends : (other : CoreKey) → queue_of new other ≡ (if is_same_key key other then queue_of old key ++ count ∷ [] else queue_of old other))
      (has : (other : CoreKey) → has_key shortest other (Some x) ≡ is_same_key key other)
      (is : IsIndex lost since shortest frames old) where
    within_by : (other : CoreKey) (b : Bool) → is_same_key key other ≡ b
        → list_all (λ n. nat_lt n (length more.sent)) (if b then queue_of old key ++ count ∷ [] else queue_of old other) ≡ true
    within_by other true same =
        list_all-append (λ n. nat_lt n (length more.sent)) (queue_of old key) (count ∷ [])
        ∙ and_from (list_all (λ n. nat_lt n (length more.sent)) (queue_of old key)) (nat_lt count (length more.sent) && true) (wider (queue_of old key) (is.within key))
        (and_from (nat_lt count (length more.sent)) true (lt-ltb count (length more.sent) (omega (arith, length-append frames.sent (x ∷ [])))) refl)
    within_by other false same = wider (queue_of old other) (is.within other)

    open_by : (other : CoreKey) (t : ℕ) → since ≤ t → (b : Bool) → is_same_key key other ≡ b
        → filter (is_open lost t more) (if b then queue_of old key ++ count ∷ [] else queue_of old other) ≡ open_of lost t shortest more other
    open_by other t later true same =
        let keys = one_key key other same in
        queue_more t (queue_of old key) (is.within key)
        ∙ ap (λ (xs : List ℕ). xs ++ cond (is_open lost t more count) (count ∷ []) [])
        (is.still_open key t later
        ∙ filter_alike (λ n. is_open lost t frames n && has_key shortest key (slice_get frames.sent n))
        (λ n. is_open lost t frames n && has_key shortest other (slice_get frames.sent n))
        (λ n. ap (λ (b : Bool). is_open lost t frames n && b) (has_key_by shortest (slice_get frames.sent n) key other keys.0 keys.1)) (range_with_len 0 count))
        ∙ ap (λ (xs : List ℕ). open_of lost t shortest frames other ++ xs)
        (ap (λ (c : Bool). cond c (count ∷ []) []) (sym (and_true (is_open lost t more count))) ∙ sym (itself_by t other true (has other ∙ same)))
        ∙ sym (open_more t other)
    open_by other t later false same =
        filter_below count (is_open lost t more) (is_open lost t frames) (open_same t) (queue_of old other) (is.within other)
        ∙ is.still_open other t later
        ∙ sym (append-nil (open_of lost t shortest frames other))
        ∙ ap (λ (xs : List ℕ). open_of lost t shortest frames other ++ xs)
        (ap (λ (c : Bool). cond c (count ∷ []) []) (sym (and_false (is_open lost t more count))) ∙ sym (itself_by t other false (has other ∙ same)))
        ∙ sym (open_more t other)

    pub sent_index : IsIndex lost since shortest more new
    sent_index =
        record {
          within = λ other.
              subst (λ (queue : List ℕ). list_all (λ n. nat_lt n (length more.sent)) queue ≡ true) (sym (sends other))
              (within_by other (is_same_key key other) refl);
          still_open = λ other t later.
              ap (λ (queue : List ℕ). filter (is_open lost t more) queue) (sends other) ∙ open_by other t later (is_same_key key other) refl;
        }
