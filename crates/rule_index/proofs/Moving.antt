-- Masks of which each is moved by one bit, for an element that comes among others or goes.
use Rattle.std.proofs.Common.{◌≡◌, ◌≢◌, ◌==◌, ℕ, ◌+◌, ◌-◌, ◌*◌, ◌/◌, ◌%◌, ◌^◌, ◌<◌, ◌≤◌, Bool, true, false, ◌||◌, List, [], ◌∷◌, ◌++◌, length, map, get_or, set, take, drop, ap, ap₂, sym, ◌∙◌, subst, arith, ◌⊎◌, inl, inr, length-append, mod-eq_of_lt, bit_and, div-add-mod'}
use Rattle.std.proofs.Math.Nat.{pow-le-pow_right, pow-suc}
use Rattle.std.proofs.lemmas.Bool.{eq-eqb, ne_eqb}
use Rattle.std.proofs.lemmas.Bool.Decides.{eqb_tells}
use Rattle.std.proofs.lemmas.Grind.{get_or-set_at}
use Rattle.std.proofs.lemmas.List.{get_or-set_other, length-map, take_at}
use Rattle.std.proofs.lemmas.Nat.{and_mask, div-mul-add, mod-mul-add, mod_below, pow_pos, shr-shr}
use Rattle.vlan_rule.specs.declared.filter.VidFilter.{VidFilter}
use Rattle.rule_index.specs.Masks.{bit_of, mask_of, with_bit, without_bit, AreGroups, IsBetween}
use Rattle.rule_index.specs.Filters.{admits_vid, is_any_vid}
use Rattle.rule_index.specs.Vids.{class_at, AreClasses, AreVids}
use Rattle.rule_index.proofs.MaskLaws.{high, mask-below}

-- ---- one mask

pub mask-append : {A : Type 0} (p : A → Bool) (xs ys : List A) → mask_of p (xs ++ ys) ≡ mask_of p ys * 2 ^ length xs + mask_of p xs
unfolding mask_of
mask-append p [] ys = omega arith
mask-append p (x ∷ xs) ys =
    let rest = mask-append p xs ys in
    let twice = pow-suc 2 (length xs) in
    rw (rest, twice) (shuffled (mask_of p ys) (2 ^ length xs) (mask_of p xs) (bit_of (p x)))
  where
    shuffled : (m n r d : ℕ) → (m * n + r) * 2 + d ≡ m * (n * 2) + (r * 2 + d)
    shuffled m n r d = grind arith

turned : (a c : ℕ) → a + c ≡ c + a
turned a c = omega arith

low-part : (a b n m : ℕ) → a < n → m ≡ b * n + a → m % n ≡ a
low-part a b n m below is = ap (λ m. m % n) is ∙ mod-mul-add b n a below

high-part : (a b n m : ℕ) → a < n → m ≡ b * n + a → m / n ≡ b
high-part a b n m below is = ap (λ m. m / n) is ∙ div-mul-add b n a below

opened : (a b d n m : ℕ) → a < n → m ≡ b * n + a → m % n + (m / n * 2 + d) * n ≡ (b * 2 + d) * n + a
opened a b d n m below is =
    ap₂ (λ l h. l + (h * 2 + d) * n) (low-part a b n m below is) (high-part a b n m below is)
    ∙ turned a ((b * 2 + d) * n)

closed : (a b c n m : ℕ) → a < n → m ≡ c * n + a → c / 2 ≡ b → m % n + m / n / 2 * n ≡ b * n + a
closed a b c n m below is half =
    ap₂ (λ l h. l + h / 2 * n) (low-part a c n m below is) (high-part a c n m below is)
    ∙ ap (λ h. a + h * n) half ∙ turned a (b * n)

-- a mask of at most 128 elements has at most 128 bits
mask-fits : {A : Type 0} (p : A → Bool) (xs : List A) → length xs ≤ 128 → mask_of p xs < 2 ^ 128
mask-fits p xs few =
    let below = mask-below p xs in
    let most : 2 ^ length xs ≤ 2 ^ 128 = pow-le-pow_right {n = 2} (omega arith) few in
    omega (arith, below, most)

pub mask-insert : {A : Type 0} (p : A → Bool) (before : List A) (x : A) (after : List A) (place : ℕ) → IsBetween before after place
    → with_bit place (p x) (mask_of p (before ++ after)) ≡ mask_of p (before ++ x ∷ after)
unfolding mask_of
mask-insert p before x after place is = subst (λ n. with_bit n (p x) (mask_of p (before ++ after)) ≡ mask_of p (before ++ x ∷ after)) is.at moved
  where
    few : length (before ++ x ∷ after) ≤ 128
    few = omega (arith, length-append before (x ∷ after), is.room)

    moved : with_bit (length before) (p x) (mask_of p (before ++ after)) ≡ mask_of p (before ++ x ∷ after)
    moved =
        ap (λ m. m % 2 ^ 128)
        (opened (mask_of p before) (mask_of p after) (bit_of (p x)) (2 ^ length before) (mask_of p (before ++ after)) (mask-below p before) (mask-append p before after)
        ∙ sym (mask-append p before (x ∷ after)))
        ∙ mod-eq_of_lt (mask-fits p (before ++ x ∷ after) few)

pub mask-remove : {A : Type 0} (p : A → Bool) (before : List A) (x : A) (after : List A) (place : ℕ) → length before ≡ place
    → without_bit place (mask_of p (before ++ x ∷ after)) ≡ mask_of p (before ++ after)
unfolding mask_of
mask-remove p before x after place at = subst (λ n. without_bit n (mask_of p (before ++ x ∷ after)) ≡ mask_of p (before ++ after)) at moved
  where
    moved : without_bit (length before) (mask_of p (before ++ x ∷ after)) ≡ mask_of p (before ++ after)
    moved =
        closed (mask_of p before) (mask_of p after) (mask_of p after * 2 + bit_of (p x)) (2 ^ length before) (mask_of p (before ++ x ∷ after)) (mask-below p before)
        (mask-append p before (x ∷ after)) (high (mask_of p after) (p x))
        ∙ sym (mask-append p before after)

-- ---- how a mask is moved

twice_over : (q n : ℕ) → (q * 2 + 0) * n ≡ q * n + q * n
twice_over q n = grind arith

once_more : (q n : ℕ) → (q * 2 + 1) * n ≡ q * n + q * n + n
once_more q n = grind arith

doubled : (m l h : ℕ) → h + l ≡ m → m + (m - l) ≡ l + (h + h)
doubled m l h is = omega arith

wrapped : (x n : ℕ) → (x % 2 ^ 128 + n) % 2 ^ 128 ≡ (x + n) % 2 ^ 128
wrapped x n = omega arith

-- a bit more that isn't set
pub open-clear : (mask place : ℕ) → (mask + (mask - bit_and mask (2 ^ place - 1))) % 2 ^ 128 ≡ with_bit place false mask
open-clear mask place =
    ap (λ l. (mask + (mask - l)) % 2 ^ 128) (and_mask mask place)
    ∙ ap (λ m. m % 2 ^ 128)
    (doubled mask (mask % 2 ^ place) (mask / 2 ^ place * 2 ^ place) (div-add-mod' mask (2 ^ place))
    ∙ ap (λ h. mask % 2 ^ place + h) (sym (twice_over (mask / 2 ^ place) (2 ^ place))))

-- and one that is
pub open-set : (mask place : ℕ) → ((mask + (mask - bit_and mask (2 ^ place - 1))) % 2 ^ 128 + 2 ^ place) % 2 ^ 128 ≡ with_bit place true mask
open-set mask place =
    ap (λ l. ((mask + (mask - l)) % 2 ^ 128 + 2 ^ place) % 2 ^ 128) (and_mask mask place)
    ∙ wrapped (mask + (mask - mask % 2 ^ place)) (2 ^ place)
    ∙ ap (λ m. m % 2 ^ 128)
    (ap (λ m. m + 2 ^ place) (doubled mask (mask % 2 ^ place) (mask / 2 ^ place * 2 ^ place) (div-add-mod' mask (2 ^ place)))
    ∙ grouped (mask % 2 ^ place) (mask / 2 ^ place * 2 ^ place) (2 ^ place)
    ∙ ap (λ h. mask % 2 ^ place + h) (sym (once_more (mask / 2 ^ place) (2 ^ place))))
  where
    grouped : (l h n : ℕ) → l + (h + h) + n ≡ l + (h + h + n)
    grouped l h n = omega arith

halved : (m place : ℕ) → m / 2 / 2 ^ place ≡ m / 2 ^ place / 2
halved m place = shr-shr m 1 place ∙ ap (λ k. m / 2 ^ k) (turned 1 place) ∙ sym (shr-shr m place 1)

cut : (m l h : ℕ) → h + l ≡ m → m - l ≡ h
cut m l h is = omega arith

-- a bit less
pub close : (mask place : ℕ) → bit_and mask (2 ^ place - 1) + (mask / 2 - bit_and (mask / 2) (2 ^ place - 1)) ≡ without_bit place mask
close mask place =
    ap₂ (λ a b. a + (mask / 2 - b)) (and_mask mask place) (and_mask (mask / 2) place)
    ∙ ap (λ h. mask % 2 ^ place + h)
    (cut (mask / 2) (mask / 2 % 2 ^ place) (mask / 2 / 2 ^ place * 2 ^ place) (div-add-mod' (mask / 2) (2 ^ place))
    ∙ ap (λ h. h * 2 ^ place) (halved mask place))

pub close-fits : (mask place : ℕ) → mask < 2 ^ 128 → place < 128 → bit_and mask (2 ^ place - 1) + (mask / 2 - bit_and (mask / 2) (2 ^ place - 1)) < 2 ^ 128
close-fits mask place fits within =
    let low : mask % 2 ^ place < 2 ^ place = mod_below mask (2 ^ place) (pow_pos place) in
    let few : place ≤ 127 = omega (arith, within) in
    let most : 2 ^ place ≤ 2 ^ 127 = pow-le-pow_right {n = 2} (omega arith) few in
    rw (and_mask mask place, and_mask (mask / 2) place) (omega (arith, low, most, fits))

-- a mask of many that is moved, where those before are and those behind aren't yet
pub moved-next : (f : ℕ → ℕ → ℕ) (old now : List ℕ) (n v : ℕ) → n < length now → v ≡ f n (get_or old n 0)
    → ((k : ℕ) → k < n → get_or now k 0 ≡ f k (get_or old k 0))
    → (k : ℕ) → k < n + 1 → get_or (set now n v) k 0 ≡ f k (get_or old k 0)
moved-next f old now n v inside value before k h = by_case (eqb_tells k n)
  where
    by_case : ((k == n) ≡ true × (k ≡ n)) ⊎ ((k == n) ≡ false × (k ≢ n)) → get_or (set now n v) k 0 ≡ f k (get_or old k 0)
    by_case (inl a) = get_or-set_at now n k v 0 a.1 inside ∙ value ∙ ap (λ i. f i (get_or old i 0)) (sym a.1)
    by_case (inr a) = get_or-set_other now n k v 0 a.1 ∙ before k (omega (arith, h, a.1))

-- what a vector has after a write to all of it
pub written : {A : Type 0} (new old : List A) (n : ℕ) → length new ≡ n → take n (new ++ drop (length new) old) ≡ new
written new old n same = take_at new (drop (length new) old) n same

-- ---- groups

pub groups-insert : {A : Type 0} (key : A → ℕ) (masks new : List ℕ) (before : List A) (x : A) (after : List A) (place at : ℕ) → IsBetween before after place
    → at ≡ key x → length new ≡ length masks
    → ((k : ℕ) → k < length masks → get_or new k 0 ≡ with_bit place (at == k) (get_or masks k 0))
    → AreGroups key masks (before ++ after) → AreGroups key new (before ++ x ∷ after)
groups-insert key masks new before x after place at is same long moved groups = λ k h.
    let within : k < length masks = omega (arith, h, long) in
    moved k within ∙ ap (λ m. with_bit place (at == k) m) (groups k within)
    ∙ ap (λ a. with_bit place (a == k) (mask_of (λ y. key y == k) (before ++ after))) same
    ∙ mask-insert (λ y. key y == k) before x after place is

pub groups-remove : {A : Type 0} (key : A → ℕ) (masks new : List ℕ) (before : List A) (x : A) (after : List A) (place : ℕ) → length before ≡ place
    → length new ≡ length masks → ((k : ℕ) → k < length masks → get_or new k 0 ≡ without_bit place (get_or masks k 0))
    → AreGroups key masks (before ++ x ∷ after) → AreGroups key new (before ++ after)
groups-remove key masks new before x after place at long moved groups = λ k h.
    let within : k < length masks = omega (arith, h, long) in
    moved k within ∙ ap (λ m. without_bit place m) (groups k within) ∙ mask-remove (λ y. key y == k) before x after place at

pub between-map : {A B : Type 0} (f : A → B) (before after : List A) (place : ℕ) → IsBetween before after place → IsBetween (map f before) (map f after) place
between-map f before after place is = record {
  at = length-map before f ∙ is.at;
  room = omega (arith, is.room, length-map before f, length-map after f);
}

-- ---- VIDs

pub vids-insert : (class masks new : List ℕ) (before : List VidFilter) (f : VidFilter) (after : List VidFilter) (place named key : ℕ) (all : Bool) → IsBetween before after place
    → ((v : ℕ) → v < 4096 → class_at class v ≤ named)
    → ((k : ℕ) → k < named + 1 → get_or new k 0 ≡ with_bit place (all || key == k) (get_or masks k 0))
    → ((v : ℕ) → v < 4096 → (all || key == class_at class v) ≡ admits_vid v f) → (all || key == 0) ≡ is_any_vid f
    → AreVids class masks (before ++ after) → AreVids class new (before ++ f ∷ after)
vids-insert class masks new before f after place named key all between below moved bits none is = record {
  admits = record {
    own = is.admits.own;
    each = λ v h.
        moved (class_at class v) (omega (arith, below v h))
        ∙ ap₂ (λ b m. with_bit place b m) (bits v h) (is.admits.each v h)
        ∙ mask-insert (λ f. admits_vid v f) before f after place between;
    others =
        moved 0 (omega arith)
        ∙ ap₂ (λ b m. with_bit place b m) none is.admits.others
        ∙ mask-insert (λ f. is_any_vid f) before f after place between;
  };
}

-- the class of a VID is that of no other
pub vid-bits : (class masks : List ℕ) (mask : ℕ → ℕ) (none at : ℕ) → AreClasses class masks mask none → at < 4096 → 0 < class_at class at
    → (v : ℕ) → v < 4096 → (class_at class at == class_at class v) ≡ (v == at)
vid-bits class masks mask none at is inside some v hv = by_case (eqb_tells v at)
  where
    differ : v ≢ at → (at ≡ v) ⊎ (class_at class at ≡ 0) → ⊥
    differ e (inl same) = e (sym same)
    differ e (inr zero) = omega (arith, zero, some)

    by_case : ((v == at) ≡ true × (v ≡ at)) ⊎ ((v == at) ≡ false × (v ≢ at)) → (class_at class at == class_at class v) ≡ (v == at)
    by_case (inl a) = eq-eqb (class_at class at) (class_at class v) (ap (λ k. class_at class k) (sym a.1)) ∙ sym a.0
    by_case (inr a) = ne_eqb (class_at class at) (class_at class v) (λ e. differ a.1 (is.own at v inside hv e)) ∙ sym a.0

-- a number that no VID has
pub never-bits : (class : List ℕ) (named at : ℕ) → ((v : ℕ) → v < 4096 → class_at class v ≤ named) → named < 129 → 4096 ≤ at
    → (v : ℕ) → v < 4096 → (129 == class_at class v) ≡ (v == at)
never-bits class named at below few beyond v hv =
    ne_eqb 129 (class_at class v) (λ e. omega (arith, e, below v hv)) ∙ sym (ne_eqb v at (λ e. omega (arith, e)))

pub vids-remove : (class masks new : List ℕ) (before : List VidFilter) (f : VidFilter) (after : List VidFilter) (place named : ℕ) → length before ≡ place
    → ((v : ℕ) → v < 4096 → class_at class v ≤ named)
    → ((k : ℕ) → k < named + 1 → get_or new k 0 ≡ without_bit place (get_or masks k 0))
    → AreVids class masks (before ++ f ∷ after) → AreVids class new (before ++ after)
vids-remove class masks new before f after place named at below moved is = record {
  admits = record {
    own = is.admits.own;
    each = λ v h.
        moved (class_at class v) (omega (arith, below v h)) ∙ ap (without_bit place) (is.admits.each v h)
        ∙ mask-remove (λ f. admits_vid v f) before f after place at;
    others =
        moved 0 (omega arith) ∙ ap (without_bit place) is.admits.others
        ∙ mask-remove (λ f. is_any_vid f) before f after place at;
  };
}
