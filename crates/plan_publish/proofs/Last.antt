-- The events before the last of a kind, and the numbers that are counted there.
use Rattle.std.proofs.Common.{◌≡◌, ℕ, ◌+◌, ◌≤◌, ◌==◌, Bool, true, false, if◌then◌else◌, List, [], ◌∷◌, ◌++◌, length, refl, ap, ◌∙◌, arith, append_assoc, append-nil, length-append, ◌||◌}
use Rattle.std.specs.List.{list_any}
use Rattle.std.proofs.lemmas.Grind.{flat_map-append}
use Rattle.std.proofs.lemmas.List.Folds.{list_any-append}
use Rattle.omci_msg.specs.declared.Request.{Request}
use Rattle.mib_state.specs.Entities.{nothing}
use Rattle.mib_state.specs.After.{after, accepted_from}
use Rattle.plan_publish.specs.World.{Event, Enter}
use Rattle.plan_publish.specs.Interleavings.{request_in, requests_in, accepted_in, is_publish, is_enter, before_last, published_by, entered_with, PrefixesGrow}
use Rattle.plan_publish.proofs.Parts.{accepted-append}

-- ---- one event more

or_true : (c : Bool) → (c || true) ≡ true
or_true true = refl
or_true false = refl

or_false : (c : Bool) → (c || false) ≡ c
or_false true = refl
or_false false = refl

any_with : (p : Event → Bool) (xs : List Event) (e : Event) → p e ≡ true → list_any p (xs ++ e ∷ []) ≡ true
any_with p xs e is = list_any-append p xs (e ∷ []) ∙ (ap (λ b. list_any p xs || (b || false)) is ∙ or_true (list_any p xs))

any_without : (p : Event → Bool) (xs : List Event) (e : Event) → p e ≡ false → list_any p (xs ++ e ∷ []) ≡ list_any p xs
any_without p xs e is = list_any-append p xs (e ∷ []) ∙ (ap (λ b. list_any p xs || (b || false)) is ∙ or_false (list_any p xs))

-- it is of the kind
pub last_is : (p : Event → Bool) (xs : List Event) (e : Event) → p e ≡ true → before_last p (xs ++ e ∷ []) ≡ xs
last_is p [] e is = refl
last_is p (x ∷ xs) e is =
    ap (λ (b : Bool). if b then x ∷ before_last p (xs ++ e ∷ []) else []) (any_with p xs e is)
    ∙ ap (λ l. x ∷ l) (last_is p xs e is)

-- it is of another kind
pub last_is_not : (p : Event → Bool) (xs : List Event) (e : Event) → p e ≡ false → before_last p (xs ++ e ∷ []) ≡ before_last p xs
last_is_not p [] e is = refl
last_is_not p (x ∷ xs) e is =
    ap (λ (b : Bool). if b then x ∷ before_last p (xs ++ e ∷ []) else []) (any_without p xs e is)
    ∙ ap (λ l. if list_any p xs then x ∷ l else []) (last_is_not p xs e is)

pub published_is : (es : List Event) (e : Event) → is_publish e ≡ true → published_by (es ++ e ∷ []) ≡ length (accepted_in es)
published_is es e is = ap (λ (l : List Event). length (accepted_in l)) (last_is is_publish es e is)

pub published_is_not : (es : List Event) (e : Event) → is_publish e ≡ false → published_by (es ++ e ∷ []) ≡ published_by es
published_is_not es e is = ap (λ (l : List Event). length (accepted_in l)) (last_is_not is_publish es e is)

pub entered_is_not : (l : ℕ) (es : List Event) (e : Event) → is_enter l e ≡ false
    → entered_with l (es ++ e ∷ []) ≡ entered_with l es
entered_is_not l es e is = ap published_by (last_is_not (is_enter l) es e is)

-- a lane enters
pub entered_is : (k l : ℕ) (es : List Event) (b : Bool) → (k == l) ≡ b
    → entered_with l (es ++ Enter k ∷ []) ≡ (if b then published_by es else entered_with l es)
entered_is k l es true is = ap published_by (last_is (is_enter l) es (Enter k) is)
entered_is k l es false is = entered_is_not l es (Enter k) is

-- ---- the numbers never fall

-- the events before the last of a kind are a beginning
before_begins : (p : Event → Bool) (es : List Event) → (rest : List Event) × (es ≡ before_last p es ++ rest)
before_begins p [] = ([], refl)
before_begins p (e ∷ es) = either_way (before_last p es) (list_any p es) (before_begins p es)
  where
    either_way : (before : List Event) (b : Bool) → (rest : List Event) × (es ≡ before ++ rest)
        → (rest : List Event) × (e ∷ es ≡ (if b then e ∷ before else []) ++ rest)
    either_way before true h = (h.0, ap (λ l. e ∷ l) h.1)
    either_way before false h = (e ∷ es, refl)

pub accepted_more : (xs ys : List Event)
    → accepted_in (xs ++ ys) ≡ accepted_in xs ++ accepted_from (after (requests_in xs)) (requests_in ys)
accepted_more xs ys =
    ap (λ (l : List Request). accepted_from nothing l) (flat_map-append request_in xs ys)
    ∙ accepted-append nothing (requests_in xs) (requests_in ys)

pub fewer_before : (p : Event → Bool) (es : List Event) → length (accepted_in (before_last p es)) ≤ length (accepted_in es)
fewer_before p es =
    let h = before_begins p es in
    let before : List Event = before_last p es in
    let more : List Request = accepted_from (after (requests_in before)) (requests_in h.0) in
    let sum : length (accepted_in es) ≡ length (accepted_in before) + length more =
    ap (λ (l : List Event). length (accepted_in l)) h.1
    ∙ (ap length (accepted_more before h.0) ∙ length-append (accepted_in before) more) in
    omega (arith, sum)

published_one : (es : List Event) (e : Event) (b : Bool) → is_publish e ≡ b → published_by es ≤ published_by (es ++ e ∷ [])
published_one es e true is = omega (arith, fewer_before is_publish es, published_is es e is)
published_one es e false is = omega (arith, published_is_not es e is)

-- a number that one event more never makes fall never falls
grows : (n : List Event → ℕ) → ((es : List Event) (e : Event) → n es ≤ n (es ++ e ∷ []))
    → (es more : List Event) → n es ≤ n (es ++ more)
grows n one es [] = let same : n (es ++ []) ≡ n es = ap n (append-nil es) in omega (arith, same)
grows n one es (e ∷ more) =
    let here = one es e in
    let later = grows n one (es ++ e ∷ []) more in
    let same : n ((es ++ e ∷ []) ++ more) ≡ n (es ++ e ∷ more) = ap n (append_assoc es (e ∷ []) more) in
    omega (arith, here, later, same)

published_more : (es more : List Event) → published_by es ≤ published_by (es ++ more)
published_more = grows published_by (λ es e. published_one es e (is_publish e) refl)

pub entered_few : (l : ℕ) (es : List Event) → entered_with l es ≤ published_by es
entered_few l es =
    let h = before_begins (is_enter l) es in
    let more = published_more (before_last (is_enter l) es) h.0 in
    let same : published_by es ≡ published_by (before_last (is_enter l) es ++ h.0) = ap published_by h.1 in
    omega (arith, more, same)

entered_one : (l : ℕ) (es : List Event) (e : Event) (b : Bool) → is_enter l e ≡ b
    → entered_with l es ≤ entered_with l (es ++ e ∷ [])
entered_one l es e true is =
    let now : entered_with l (es ++ e ∷ []) ≡ published_by es = ap published_by (last_is (is_enter l) es e is) in
    omega (arith, entered_few l es, now)
entered_one l es e false is = omega (arith, entered_is_not l es e is)

pub prefixes_grow : PrefixesGrow
prefixes_grow l = grows (entered_with l) (λ es e. entered_one l es e (is_enter l e) refl)
