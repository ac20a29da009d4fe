-- Which frames one that leaves may be, found by a key.
use Rattle.std.proofs.Common.{◌≡◌, ◌≤◌, ◌<◌, ◌+◌, ℕ, zero, suc, ◌&&◌, ◌||◌, Bool, true, false, not, cond, List, [], ◌∷◌, ◌++◌, length, take, Option, refl, ap, sym, ◌∙◌, arith}
use Rattle.std.specs.Prelude.{filter, nat_eq, nat_le, nat_lt, slice_get}
use Rattle.std.specs.List.{list_all, list_any, range_with_len, starts_with}
use Rattle.std.specs.Str.{bytes_eq}
use Rattle.std.proofs.lemmas.Bool.{and_from, and_parts, le-leb, leb-true, or_left, or_right}
use Rattle.std.proofs.lemmas.List.{take-take}
use Rattle.std.proofs.lemmas.List.Folds.{list_any-append}
use Rattle.std.proofs.lemmas.Slice.Eq.{bytes_eq-Decides}
use Rattle.bench_history.proofs.Added.{counted}
use Rattle.bench_history.specs.Among.{are_in_order, ascend_from}
use Rattle.bench_history.specs.History.{are_among, have_left, is_among}
use Rattle.bench_history.specs.declared.extent.Extent.{Extent}
use Rattle.bench_history.specs.declared.extent.Extent.TheVariants.{Whole, Front}
use Rattle.bench_record.specs.Cores.{Core, are_same, cores_agree, cut_from, rests_agree, without_zeros}
use Rattle.bench_record.specs.Index.{IsIndex, has_key, is_long, is_long_by, key_rest, queue_of}
use Rattle.bench_record.specs.Matching.{Frames, SentFrame, candidates, has_core, is_open, is_used_up, is_waiting, leave_at}
use Rattle.bench_record.specs.declared.core_key.CoreKey.{CoreKey}
use Rattle.bench_record.specs.declared.open_frames.OpenFrames.{OpenFrames}
use Rattle.bench_record.proofs.Filters.{filter_alike, filter_both}
use Rattle.bench_record.proofs.Indexes.{IsFewerOpen}
use Rattle.bench_record.proofs.Zeros.{same_first}

-- ---- cores that agree have one key

begins_take : (xs ys : List ℕ) (n : ℕ) → n ≤ length ys → starts_with nat_eq xs ys ≡ true → key_rest n xs ≡ key_rest n ys
begins_take xs ys n within is =
    let same : ys ≡ take (length ys) xs = (bytes_eq-Decides ys (take (length ys) xs)).0 is in
    ap without_zeros (sym (take-take n (length ys) xs within) ∙ ap (take n) (sym same))

cut_take : (padded : Bool) (xs ys : List ℕ) (n : ℕ) → n ≤ length ys → cut_from padded xs ys ≡ true → key_rest n xs ≡ key_rest n ys
cut_take true xs ys n within is =
    let same : without_zeros (take (length ys) xs) ≡ without_zeros ys = (bytes_eq-Decides (without_zeros (take (length ys) xs)) (without_zeros ys)).0 is in
    ap without_zeros (sym (take-take n (length ys) xs within)) ∙ same_first n (take (length ys) xs) ys same
cut_take false xs ys n within is =
    begins_take xs ys n within (and_parts (starts_with nat_eq xs ys) (nat_lt (length ys) (length xs)) is).0

same_take : (padded : Bool) (xs ys : List ℕ) (n : ℕ) → are_same padded xs ys ≡ true → key_rest n xs ≡ key_rest n ys
same_take true xs ys n is = same_first n xs ys ((bytes_eq-Decides (without_zeros xs) (without_zeros ys)).0 is)
same_take false xs ys n is = ap (key_rest n) ((bytes_eq-Decides xs ys).0 is)

by_either : (A : Type 0) (p q : Bool) → (p || q) ≡ true → (p ≡ true → A) → (q ≡ true → A) → A
by_either A true q is first last = first refl
by_either A false q is first last = last is

rests_front : (padded : Bool) (shortest : ℕ) (a b : Extent) (xs ys : List ℕ) → is_long_by shortest a xs ≡ true → is_long_by shortest b ys ≡ true
    → rests_agree padded a b xs ys ≡ true → key_rest shortest xs ≡ key_rest shortest ys
rests_front padded shortest Whole Whole xs ys long_x long_y is = same_take padded xs ys shortest is
rests_front padded shortest Whole Front xs ys long_x long_y is = cut_take padded xs ys shortest (leb-true shortest (length ys) long_y) is
rests_front padded shortest Front Whole xs ys long_x long_y is = sym (cut_take false ys xs shortest (leb-true shortest (length xs) long_x) is)
rests_front padded shortest Front Front xs ys long_x long_y is =
    by_either (key_rest shortest xs ≡ key_rest shortest ys) (starts_with nat_eq xs ys) (starts_with nat_eq ys xs) is
    (λ so. begins_take xs ys shortest (leb-true shortest (length ys) long_y) so)
    (λ so. sym (begins_take ys xs shortest (leb-true shortest (length xs) long_x) so))

core_has_key : (shortest : ℕ) (core other : Core) (key : CoreKey) → key.addresses.now ≡ core.addresses → key.rest.now ≡ key_rest shortest core.rest
    → is_long shortest other ≡ true → is_long shortest core ≡ true → cores_agree other core ≡ true
    → (bytes_eq other.addresses key.addresses.now && bytes_eq (key_rest shortest other.rest) key.rest.now) ≡ true
core_has_key shortest core other key addresses rest long_other long_core is =
    let parts = and_parts (bytes_eq other.addresses core.addresses) (rests_agree other.padded other.extent core.extent other.rest core.rest) is in
    and_from (bytes_eq other.addresses key.addresses.now) (bytes_eq (key_rest shortest other.rest) key.rest.now)
    ((bytes_eq-Decides other.addresses key.addresses.now).1 ((bytes_eq-Decides other.addresses core.addresses).0 parts.0 ∙ sym addresses))
    ((bytes_eq-Decides (key_rest shortest other.rest) key.rest.now).1
    (rests_front other.padded shortest other.extent core.extent other.rest core.rest long_other long_core parts.1 ∙ sym rest))

abbrev pub AllLong : ℕ → List SentFrame → Type 0
AllLong shortest frames = list_all (λ (sent : SentFrame). is_long shortest sent.core) frames ≡ true

has_core_key : (shortest : ℕ) (core : Core) (key : CoreKey) → key.addresses.now ≡ core.addresses → key.rest.now ≡ key_rest shortest core.rest → is_long shortest core ≡ true
    → (frames : List SentFrame) → AllLong shortest frames → (n : ℕ) → has_core core (slice_get frames n) ≡ true → has_key shortest key (slice_get frames n) ≡ true
has_core_key shortest core key addresses rest long_core [] long n is = is
has_core_key shortest core key addresses rest long_core (x ∷ frames) long zero is =
    let parts = and_parts (is_long shortest x.core) (list_all (λ (sent : SentFrame). is_long shortest sent.core) frames) long in
    core_has_key shortest core x.core key addresses rest parts.0 long_core is
has_core_key shortest core key addresses rest long_core (x ∷ frames) long (suc n) is =
    let parts = and_parts (is_long shortest x.core) (list_all (λ (sent : SentFrame). is_long shortest sent.core) frames) long in
    has_core_key shortest core key addresses rest long_core frames parts.1 n is

-- ---- candidates

narrower : (a k c : Bool) → (c ≡ true → k ≡ true) → ((a && k) && c) ≡ (a && c)
narrower true true c so = refl
narrower true false true so = so refl
narrower true false false so = refl
narrower false k c so = refl

-- the frames of a core among the open ones of its key
pub found_candidates : (lost : Option ℕ) (since time shortest : ℕ) (frames : Frames) (index : OpenFrames) (core : Core) (key : CoreKey) → since ≤ time
    → IsIndex lost since shortest frames index → AllLong shortest frames.sent → is_long shortest core ≡ true
    → key.addresses.now ≡ core.addresses → key.rest.now ≡ key_rest shortest core.rest
    → filter (λ n. has_core core (slice_get frames.sent n)) (filter (is_open lost time frames) (queue_of index key)) ≡ candidates lost time core frames
found_candidates lost since time shortest frames index core key within is long long_core addresses rest =
    let now : ℕ → Bool = is_open lost time frames in
    let keyed : ℕ → Bool = λ n. has_key shortest key (slice_get frames.sent n) in
    let cored : ℕ → Bool = λ n. has_core core (slice_get frames.sent n) in
    let all : List ℕ = range_with_len 0 (length frames.sent) in
    ap (λ (xs : List ℕ). filter cored xs) (is.still_open key time within)
    ∙ filter_both (λ n. now n && keyed n) cored all
    ∙ filter_alike (λ n. (now n && keyed n) && cored n) (λ n. now n && cored n)
    (λ n. narrower (now n) (keyed n) (cored n) (has_core_key shortest core key addresses rest long_core frames.sent long n)) all

-- where the queue of the key is empty, there are none
pub no_candidates : (lost : Option ℕ) (since time shortest : ℕ) (frames : Frames) (index : OpenFrames) (core : Core) (key : CoreKey) → since ≤ time
    → IsIndex lost since shortest frames index → AllLong shortest frames.sent → is_long shortest core ≡ true
    → key.addresses.now ≡ core.addresses → key.rest.now ≡ key_rest shortest core.rest
    → queue_of index key ≡ [] → [] ≡ candidates lost time core frames
no_candidates lost since time shortest frames index core key within is long long_core addresses rest empty =
    sym (ap (λ (xs : List ℕ). filter (λ n. has_core core (slice_get frames.sent n)) (filter (is_open lost time frames) xs)) empty)
    ∙ found_candidates lost since time shortest frames index core key within is long long_core addresses rest

-- ---- candidates are in order

rises : (p : ℕ → Bool) (least a n : ℕ) → least ≤ a → ascend_from least (filter p (range_with_len a n)) ≡ true
rises p least a zero within = refl
rises p least a (suc n) within =
    here (p a) (rises p (a + 1) (a + 1) n (omega arith)) (rises p least (a + 1) n (omega (arith, within)))
  where
    here : (b : Bool) → ascend_from (a + 1) (filter p (range_with_len (a + 1) n)) ≡ true → ascend_from least (filter p (range_with_len (a + 1) n)) ≡ true
        → ascend_from least (cond b (a ∷ filter p (range_with_len (a + 1) n)) (filter p (range_with_len (a + 1) n))) ≡ true
    here true behind others = and_from (nat_le least a) (ascend_from (a + 1) (filter p (range_with_len (a + 1) n))) (le-leb least a within) behind
    here false behind others = others

some_in_order : (numbers : List ℕ) → 0 < length numbers → ascend_from 0 numbers ≡ true → are_in_order numbers ≡ true
some_in_order [] some is = absurd (omega (arith, some))
some_in_order (n ∷ numbers) some is = (and_parts (nat_le 0 n) (ascend_from (n + 1) numbers) is).1

pub candidates_in_order : (lost : Option ℕ) (time : ℕ) (core : Core) (frames : Frames) (numbers : List ℕ) → numbers ≡ candidates lost time core frames
    → 0 < length numbers → are_in_order numbers ≡ true
candidates_in_order lost time core frames numbers is some =
    some_in_order numbers some
    (ap (λ (ns : List ℕ). ascend_from 0 ns) is
    ∙ rises (λ n. is_open lost time frames n && has_core core (slice_get frames.sent n)) 0 0 (length frames.sent) (omega arith))

-- ---- more named sets leave fewer open

still_left : (named : List (List ℕ)) (some frames : List ℕ) → have_left frames named ≡ true → have_left frames (named ++ some ∷ []) ≡ true
still_left named some frames is =
    le-leb (length frames) _ (omega (arith, leb-true (length frames) _ is, counted (are_among frames) named some))

still_any : (n : ℕ) (named : List (List ℕ)) (some : List ℕ) (all : List (List ℕ))
    → list_any (λ frames. is_among frames n && have_left frames named) all ≡ true
    → list_any (λ frames. is_among frames n && have_left frames (named ++ some ∷ [])) all ≡ true
still_any n named some [] is = is
still_any n named some (frames ∷ all) is =
    step (is_among frames n) (have_left frames named) (have_left frames (named ++ some ∷ [])) _ _ (still_left named some frames) (still_any n named some all) is
  where
    step : (a h i b c : Bool) → (h ≡ true → i ≡ true) → (b ≡ true → c ≡ true) → ((a && h) || b) ≡ true → ((a && i) || c) ≡ true
    step true true i b c first behind is = or_left i c (first refl)
    step true false i b c first behind is = or_right i c (behind is)
    step false h i b c first behind is = behind is

used_still : (named : List (List ℕ)) (some : List ℕ) (n : ℕ) → is_used_up named n ≡ true → is_used_up (named ++ some ∷ []) n ≡ true
used_still named some n is =
    list_any-append (λ frames. is_among frames n && have_left frames (named ++ some ∷ [])) named (some ∷ [])
    ∙ ap (λ (b : Bool). b || list_any (λ frames. is_among frames n && have_left frames (named ++ some ∷ [])) (some ∷ [])) (still_any n named some named is)

not_before : (u v : Bool) → (u ≡ true → v ≡ true) → not v ≡ true → not u ≡ true
not_before true true so is = is
not_before true false so is = so refl
not_before false v so is = refl

pub fewer_named : (lost : Option ℕ) (frames : Frames) (some : List ℕ) → IsFewerOpen lost frames (record frames { named = frames.named ++ some ∷ [] })
fewer_named lost frames some =
    record {
      count = refl;
      fewer = λ t n is.
          let parts = and_parts (is_waiting lost t (slice_get frames.sent n)) (not (is_used_up (frames.named ++ some ∷ []) n)) is in
          and_from (is_waiting lost t (slice_get frames.sent n)) (not (is_used_up frames.named n)) parts.0
          (not_before (is_used_up frames.named n) (is_used_up (frames.named ++ some ∷ []) n) (used_still frames.named some n) parts.1);
      keys = λ shortest key n. refl;
    }

-- ---- a frame that has left isn't open

pub left_count : (n : ℕ) (frames : List SentFrame) → length (leave_at n frames) ≡ length frames
left_count n [] = refl
left_count zero (x ∷ frames) = refl
left_count (suc n) (x ∷ frames) = ap (λ k. suc k) (left_count n frames)

left_waiting : (lost : Option ℕ) (t n : ℕ) (frames : List SentFrame) (m : ℕ) → is_waiting lost t (slice_get (leave_at n frames) m) ≡ true
    → is_waiting lost t (slice_get frames m) ≡ true
left_waiting lost t n [] m is = is
left_waiting lost t zero (x ∷ frames) zero is = cc is
left_waiting lost t zero (x ∷ frames) (suc m) is = is
left_waiting lost t (suc n) (x ∷ frames) zero is = is
left_waiting lost t (suc n) (x ∷ frames) (suc m) is = left_waiting lost t n frames m is

left_key : (shortest : ℕ) (key : CoreKey) (n : ℕ) (frames : List SentFrame) (m : ℕ)
    → has_key shortest key (slice_get (leave_at n frames) m) ≡ has_key shortest key (slice_get frames m)
left_key shortest key n [] m = refl
left_key shortest key zero (x ∷ frames) zero = refl
left_key shortest key zero (x ∷ frames) (suc m) = refl
left_key shortest key (suc n) (x ∷ frames) zero = refl
left_key shortest key (suc n) (x ∷ frames) (suc m) = left_key shortest key n frames m

pub fewer_left : (lost : Option ℕ) (frames : Frames) (n : ℕ) → IsFewerOpen lost frames (record frames { sent = leave_at n frames.sent })
fewer_left lost frames n =
    record {
      count = left_count n frames.sent;
      fewer = λ t m is.
          let parts = and_parts (is_waiting lost t (slice_get (leave_at n frames.sent) m)) (not (is_used_up frames.named m)) is in
          and_from (is_waiting lost t (slice_get frames.sent m)) (not (is_used_up frames.named m)) (left_waiting lost t n frames.sent m parts.0) parts.1;
      keys = λ shortest key m. left_key shortest key n frames.sent m;
    }

pub left_long : (shortest n : ℕ) (frames : List SentFrame)
    → list_all (λ (sent : SentFrame). is_long shortest sent.core) (leave_at n frames) ≡ list_all (λ (sent : SentFrame). is_long shortest sent.core) frames
left_long shortest n [] = refl
left_long shortest zero (x ∷ frames) = refl
left_long shortest (suc n) (x ∷ frames) = ap (λ (b : Bool). is_long shortest x.core && b) (left_long shortest n frames)
