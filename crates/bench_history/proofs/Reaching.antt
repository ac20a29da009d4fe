-- Doubts that end below the least of some frames share none with them.
use Rattle.std.proofs.Common.{◌≡◌, ℕ, zero, suc, ◌+◌, ◌-◌, ◌<◌, ◌≤◌, Bool, true, false, ◌&&◌, cond, List, [], ◌∷◌, ◌++◌, length, map, take, drop, refl, ap, sym, ◌∙◌, arith}
use Rattle.std.specs.Prelude.{◌==◌, Some, None, max, nat_le, nat_lt, slice_get, slice_index_or}
use Rattle.std.specs.List.{AllWithin, count_by, list_all}
use Rattle.std.specs.List.Sorted.{IsNonDecreasingBy}
use Rattle.std.proofs.lemmas.Bool.{and_from, and_parts, eqb-true, false_from_ne_true, le-leb, leb-true, lt-ltb, ltb-true, or_from}
use Rattle.std.proofs.lemmas.List.Sums.{sum_by-append}
use Rattle.bench_history.specs.Among.{are_in_order, ascend_from}
use Rattle.bench_history.specs.History.{are_among, is_among}
use Rattle.bench_history.specs.Doubts.{frames_of, last_or, raised, reach_of, reach_on}
use Rattle.bench_history.specs.declared.doubts.Doubt.{Doubt}

-- ---- frames apart

other : (m n : ℕ) → m < n → (m == n) ≡ false
other m n lt = false_from_ne_true (m == n) (λ is. absurd (omega (arith, eqb-true m n is, lt)))

another : (m n : ℕ) → n < m → (m == n) ≡ false
another m n lt = false_from_ne_true (m == n) (λ is. absurd (omega (arith, eqb-true m n is, lt)))

none_below : (n : ℕ) (frames : List ℕ) → list_all (λ m. nat_lt m n) frames ≡ true → is_among frames n ≡ false
none_below n [] below = refl
none_below n (m ∷ frames) below =
    let both = and_parts (nat_lt m n) (list_all (λ k. nat_lt k n) frames) below in
    or_from (m == n) (is_among frames n) (other m n (ltb-true m n both.0)) (none_below n frames both.1)

none_from : (n least : ℕ) (frames : List ℕ) → n < least → ascend_from least frames ≡ true → is_among frames n ≡ false
none_from n least [] lt order = refl
none_from n least (m ∷ frames) lt order =
    let both = and_parts (nat_le least m) (ascend_from (m + 1) frames) order in
    let up : least ≤ m = leb-true least m both.0 in
    or_from (m == n) (is_among frames n) (another m n (omega (arith, up, lt))) (none_from n (m + 1) frames (omega (arith, up, lt)) both.1)

-- neither of two lists of frames is among the other
pub record IsApart (some frames : List ℕ) : Type 0 where
  pub none_of_these : are_among frames some ≡ false
  pub none_of_those : are_among some frames ≡ false

first_missing : (b c : Bool) → b ≡ false → (b && c) ≡ false
first_missing false c is = refl
first_missing true c is = cc is

pub apart : (least : ℕ) (some frames : List ℕ) → slice_get some 0 ≡ Some least → are_in_order some ≡ true → are_in_order frames ≡ true
    → list_all (λ m. nat_lt m least) frames ≡ true → IsApart some frames
apart least [] frames is order orders below = cc is
apart least (n ∷ more) [] is order orders below = cc orders
apart least (n ∷ more) (m ∷ frames) is order orders below =
    let same : n ≡ least = cc is in
    let first = and_parts (nat_lt m least) (list_all (λ k. nat_lt k least) frames) below in
    let lt : m < least = ltb-true m least first.0 in
    record {
      none_of_these =
          first_missing (is_among (m ∷ frames) n) (are_among (m ∷ frames) more)
          (ap (λ k. is_among (m ∷ frames) k) same ∙ none_below least (m ∷ frames) below);
      none_of_those =
          first_missing (is_among (n ∷ more) m) (are_among (n ∷ more) frames)
          (or_from (n == m) (is_among more m) (another n m (omega (arith, same, lt))) (none_from m (n + 1) more (omega (arith, same, lt)) order));
    }

-- ---- doubts apart

abbrev pub AreApart : List ℕ → List Doubt → Type 0
AreApart some [] = Unit {0}
AreApart some (doubt ∷ doubts) = IsApart some doubt.frames.items × AreApart some doubts

all_below : (least reach : ℕ) (frames : List ℕ) → reach < least → list_all (λ n. nat_le n reach) frames ≡ true → list_all (λ n. nat_lt n least) frames ≡ true
all_below least reach [] lt are = refl
all_below least reach (n ∷ frames) lt are =
    let both = and_parts (nat_le n reach) (list_all (λ k. nat_le k reach) frames) are in
    and_from (nat_lt n least) (list_all (λ k. nat_lt k least) frames) (lt-ltb n least (omega (arith, leb-true n reach both.0, lt)))
    (all_below least reach frames lt both.1)

module _ (least : ℕ) (some : List ℕ) (first : slice_get some 0 ≡ Some least) (order : are_in_order some ≡ true) where
  pub apart_before : (i far : ℕ) (doubts : List Doubt) → reach_on far doubts ≡ true → list_all are_in_order (frames_of doubts) ≡ true
      → list_all (λ (doubt : Doubt). nat_lt doubt.reach least) (take i doubts) ≡ true → AreApart some (take i doubts)
  apart_before zero far doubts reach orders short = tt
  apart_before (suc i) far [] reach orders short = tt
  apart_before (suc i) far (doubt ∷ doubts) reach orders short =
      let within = and_parts (nat_le far doubt.reach) (list_all (λ n. nat_le n doubt.reach) doubt.frames.items && reach_on doubt.reach doubts) reach in
      let on = and_parts (list_all (λ n. nat_le n doubt.reach) doubt.frames.items) (reach_on doubt.reach doubts) within.1 in
      let ordered = and_parts (are_in_order doubt.frames.items) (list_all are_in_order (frames_of doubts)) orders in
      let below = and_parts (nat_lt doubt.reach least) (list_all (λ (d : Doubt). nat_lt d.reach least) (take i doubts)) short in (
        apart least some doubt.frames.items first order ordered.0 (all_below least doubt.reach doubt.frames.items (ltb-true doubt.reach least below.0) on.0),
        apart_before i doubt.reach doubts on.1 ordered.1 below.1,
      )

same_missing : (some : List ℕ) (doubt : Doubt) → are_among doubt.frames.items some ≡ false → raised some doubt ≡ doubt
same_missing some doubt none = rw none refl

-- they aren't raised
pub raised_behind : (some : List ℕ) (i : ℕ) (doubts : List Doubt) → AreApart some (take i doubts)
    → take i doubts ++ map (raised some) (drop i doubts) ≡ map (raised some) doubts
raised_behind some zero doubts are = refl
raised_behind some (suc i) [] are = refl
raised_behind some (suc i) (doubt ∷ doubts) are =
    ap (λ (ds : List Doubt). doubt ∷ ds) (raised_behind some i doubts are.1)
    ∙ ap (λ (d : Doubt). d ∷ map (raised some) doubts) (sym (same_missing some doubt are.0.none_of_these))

pub raised_apart : (some : List ℕ) (i : ℕ) (doubts : List Doubt) → drop i (take i doubts ++ map (raised some) (drop i doubts)) ≡ map (raised some) (drop i doubts)
raised_apart some zero doubts = refl
raised_apart some (suc i) [] = refl
raised_apart some (suc i) (doubt ∷ doubts) = raised_apart some i doubts

-- what one doubt counts for
abbrev once : Bool → ℕ
once passes = cond passes 1 0

-- and don't count
pub counted_behind : (some : List ℕ) (i : ℕ) (doubts : List Doubt) → AreApart some (take i doubts)
    → count_by (λ (doubt : Doubt). are_among some doubt.frames.items) (drop i doubts) ≡ count_by (λ (doubt : Doubt). are_among some doubt.frames.items) doubts
counted_behind some zero doubts are = refl
counted_behind some (suc i) [] are = refl
counted_behind some (suc i) (doubt ∷ doubts) are =
    let none : once (are_among some doubt.frames.items) ≡ once false = ap once are.0.none_of_those in
    omega (arith, counted_behind some i doubts are.1, none, sum_by-append (λ (d : Doubt). once (are_among some d.frames.items)) (doubt ∷ []) doubts)

-- ---- how far they reach

reach_from : (far : ℕ) (doubts : List Doubt) → reach_on far doubts ≡ true → (j : ℕ) (d : Doubt) → j < length doubts → far ≤ (slice_index_or doubts j d).reach
reach_from far [] reach j d lt = absurd (omega (arith, lt))
reach_from far (doubt ∷ doubts) reach zero d lt = leb-true far doubt.reach (and_parts (nat_le far doubt.reach) _ reach).0
reach_from far (doubt ∷ doubts) reach (suc j) d lt =
    let within = and_parts (nat_le far doubt.reach) (list_all (λ n. nat_le n doubt.reach) doubt.frames.items && reach_on doubt.reach doubts) reach in
    let on = and_parts (list_all (λ n. nat_le n doubt.reach) doubt.frames.items) (reach_on doubt.reach doubts) within.1 in
    omega (arith, leb-true far doubt.reach within.0, reach_from doubt.reach doubts on.1 j d (omega (arith, lt)))

-- none reaches less far than one before it
pub reach_rises : (far : ℕ) (doubts : List Doubt) → reach_on far doubts ≡ true → IsNonDecreasingBy (λ (d : Doubt). d.reach) doubts
reach_rises far [] reach i j d le lt = absurd (omega (arith, lt))
reach_rises far (doubt ∷ doubts) reach i j d le lt =
    let within = and_parts (nat_le far doubt.reach) (list_all (λ n. nat_le n doubt.reach) doubt.frames.items && reach_on doubt.reach doubts) reach in
    let on = and_parts (list_all (λ n. nat_le n doubt.reach) doubt.frames.items) (reach_on doubt.reach doubts) within.1 in
    step i j le lt (λ k below. reach_from doubt.reach doubts on.1 k d below) (λ k m up below. reach_rises doubt.reach doubts on.1 k m d up below)
  where
    step : (i j : ℕ) → i ≤ j → j < length (doubt ∷ doubts) → ((k : ℕ) → k < length doubts → doubt.reach ≤ (slice_index_or doubts k d).reach)
        → ((k m : ℕ) → k ≤ m → m < length doubts → (slice_index_or doubts k d).reach ≤ (slice_index_or doubts m d).reach)
        → (slice_index_or (doubt ∷ doubts) i d).reach ≤ (slice_index_or (doubt ∷ doubts) j d).reach
    step zero zero le lt first behind = omega arith
    step zero (suc j) le lt first behind = first j (omega (arith, lt))
    step (suc i) zero le lt first behind = absurd (omega (arith, le))
    step (suc i) (suc j) le lt first behind = behind i j (omega (arith, le)) (omega (arith, lt))

pub all_taken : (p : Doubt → Bool) (i : ℕ) (doubts : List Doubt) → AllWithin (λ d. p d ≡ true) doubts 0 i → list_all p (take i doubts) ≡ true
all_taken p zero doubts all = refl
all_taken p (suc i) [] all = refl
all_taken p (suc i) (doubt ∷ doubts) all =
    and_from (p doubt) (list_all p (take i doubts)) (all 0 doubt (omega arith) (omega arith))
    (all_taken p i doubts (λ k d low high. all (suc k) d (omega arith) (omega (arith, high))))

one_less : {A : Type 0} (x : A) (xs : List A) → length (x ∷ xs) - 1 ≡ length xs
one_less x xs = omega arith

never : {A : Type 0} (x : A) (xs : List A) → slice_get (x ∷ xs) (length xs) ≡ None → ⊥
never x [] at = cc at
never x (y ∷ xs) at = never y xs at

-- the last of some numbers
last_at : (n : ℕ) (numbers : List ℕ) (last : ℕ) → slice_get (n ∷ numbers) (length numbers) ≡ Some last → last_or n numbers ≡ last
last_at n [] last at = cc at
last_at n (m ∷ numbers) last at = last_at m numbers last at

pub got_last : (numbers : List ℕ) (n last : ℕ) → slice_get numbers (length numbers - 1) ≡ Some last → last_or n numbers ≡ last
got_last [] n last at = cc at
got_last (m ∷ numbers) n last at = last_at m numbers last (ap (λ k. slice_get (m ∷ numbers) k) (sym (one_less m numbers)) ∙ at)

pub got_none : (numbers : List ℕ) (n : ℕ) → slice_get numbers (length numbers - 1) ≡ None → last_or n numbers ≡ n
got_none [] n at = refl
got_none (m ∷ numbers) n at = absurd (never m numbers (ap (λ k. slice_get (m ∷ numbers) k) (sym (one_less m numbers)) ∙ at))

-- and of some doubts
reach_at : (d : Doubt) (doubts : List Doubt) (last : Doubt) → slice_get (d ∷ doubts) (length doubts) ≡ Some last → last_or d.reach (map (λ (e : Doubt). e.reach) doubts) ≡ last.reach
reach_at d [] last at =
    let same : d ≡ last = cc at in
    ap (λ (e : Doubt). e.reach) same
reach_at d (e ∷ doubts) last at = reach_at e doubts last at

pub got_reach : (doubts : List Doubt) (last : Doubt) → slice_get doubts (length doubts - 1) ≡ Some last → reach_of doubts ≡ last.reach
got_reach [] last at = cc at
got_reach (d ∷ doubts) last at = reach_at d doubts last (ap (λ k. slice_get (d ∷ doubts) k) (sym (one_less d doubts)) ∙ at)

pub got_no_reach : (doubts : List Doubt) → slice_get doubts (length doubts - 1) ≡ None → reach_of doubts ≡ 0
got_no_reach [] at = refl
got_no_reach (d ∷ doubts) at = absurd (never d doubts (ap (λ k. slice_get (d ∷ doubts) k) (sym (one_less d doubts)) ∙ at))

pub as_far : (far last : ℕ) → last ≡ 0 → far ≡ max far last
as_far far last none = omega (arith, none)

pub reach_raised : (some : List ℕ) (far : ℕ) (doubts : List Doubt) → reach_on far (map (raised some) doubts) ≡ reach_on far doubts
reach_raised some far [] = refl
reach_raised some far (doubt ∷ doubts) =
    ap (λ (b : Bool). nat_le far doubt.reach && (list_all (λ n. nat_le n doubt.reach) doubt.frames.items && b)) (reach_raised some doubt.reach doubts)

pub reach_more : (far : ℕ) (doubts : List Doubt) (doubt : Doubt) → reach_on far doubts ≡ true
    → last_or far (map (λ (d : Doubt). d.reach) doubts) ≤ doubt.reach → list_all (λ n. nat_le n doubt.reach) doubt.frames.items ≡ true
    → reach_on far (doubts ++ doubt ∷ []) ≡ true
reach_more far [] doubt reach up own =
    and_from (nat_le far doubt.reach) _ (le-leb far doubt.reach up) (and_from (list_all (λ n. nat_le n doubt.reach) doubt.frames.items) true own refl)
reach_more far (d ∷ doubts) doubt reach up own =
    let within = and_parts (nat_le far d.reach) (list_all (λ n. nat_le n d.reach) d.frames.items && reach_on d.reach doubts) reach in
    let on = and_parts (list_all (λ n. nat_le n d.reach) d.frames.items) (reach_on d.reach doubts) within.1 in
    and_from (nat_le far d.reach) _ within.0
    (and_from (list_all (λ n. nat_le n d.reach) d.frames.items) (reach_on d.reach (doubts ++ doubt ∷ [])) on.0 (reach_more d.reach doubts doubt on.1 up own))

-- the last of numbers that ascend is the greatest
up_to_last : (n : ℕ) (numbers : List ℕ) → ascend_from n numbers ≡ true → (m : ℕ) → m ≤ n → m ≤ last_or m numbers
up_to_last n [] order m le = omega arith
up_to_last n (k ∷ numbers) order m le =
    let both = and_parts (nat_le n k) (ascend_from (k + 1) numbers) order in
    let up : n ≤ k = leb-true n k both.0 in
    omega (arith, up, le, up_to_last (k + 1) numbers both.1 k (omega arith))

all_up_to : (least other last : ℕ) (numbers : List ℕ) → ascend_from least numbers ≡ true → last_or other numbers ≤ last → list_all (λ n. nat_le n last) numbers ≡ true
all_up_to least o last [] order up = refl
all_up_to least o last (n ∷ numbers) order up =
    let both = and_parts (nat_le least n) (ascend_from (n + 1) numbers) order in
    let own : n ≤ last_or n numbers = up_to_last (n + 1) numbers both.1 n (omega arith) in
    and_from (nat_le n last) (list_all (λ k. nat_le k last) numbers) (le-leb n last (omega (arith, own, up))) (all_up_to (n + 1) n last numbers both.1 up)

pub each_up_to : (last : ℕ) (numbers : List ℕ) → are_in_order numbers ≡ true → last_or 0 numbers ≤ last → list_all (λ n. nat_le n last) numbers ≡ true
each_up_to last [] order up = refl
each_up_to last (n ∷ numbers) order up =
    let own : n ≤ last_or n numbers = up_to_last (n + 1) numbers order n (omega arith) in
    and_from (nat_le n last) (list_all (λ k. nat_le k last) numbers) (le-leb n last (omega (arith, own, up))) (all_up_to (n + 1) n last numbers order up)
