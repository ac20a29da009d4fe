-- Beginnings of one list.
use Rattle.std.proofs.Common.{◌≡◌, ◌+◌, ◌<◌, ◌≤◌, ◌^◌, List, [], ◌∷◌, ◌++◌, length, Some, refl, ap, sym, ◌∙◌, arith, append_assoc, append-nil, length-append}
use mathlib.Core.List.{IsPrefix}
use Rattle.omci_msg.specs.declared.Request.{Request}
use Rattle.plan_publish.specs.Requests.{StartsWith, version_of, last_of}

-- of two beginnings of one list the shorter begins the longer
pub shorter : (xs ys zs : List Request) → IsPrefix xs zs → IsPrefix ys zs → length xs ≤ length ys → StartsWith ys xs
shorter [] ys zs p q le = (ys, refl)
shorter (x ∷ xs) [] zs p q le = absurd (omega arith)
shorter (x ∷ xs) (y ∷ ys) [] p q le = absurd (cc (p.1))
shorter (x ∷ xs) (y ∷ ys) (z ∷ zs) p q le =
    let heads : y ≡ x = cc (p.1, q.1) in
    let rest = shorter xs ys zs (p.0, cc (p.1)) (q.0, cc (q.1)) (omega arith) in
    (rest.0, cc (heads, rest.1))

-- a beginning as long as the whole is the whole
pub whole : (xs ys : List Request) → IsPrefix xs ys → length ys ≤ length xs → xs ≡ ys
whole [] [] p le = refl
whole [] (y ∷ ys) p le = absurd (omega arith)
whole (x ∷ xs) [] p le = absurd (cc (p.1))
whole (x ∷ xs) (y ∷ ys) p le =
    let rest = whole xs ys (p.0, cc (p.1)) (omega arith) in cc (p.1, rest)

pub last_of-push : (l : List Request) (q : Request) → last_of (l ++ q ∷ []) ≡ Some q
last_of-push [] q = refl
last_of-push (a ∷ []) q = refl
last_of-push (a ∷ b ∷ l) q = last_of-push (b ∷ l) q

pub starts_longer : (all more first : List Request) → StartsWith all first → StartsWith (all ++ more) first
starts_longer all more first h = (h.0 ++ more, ap (λ l. l ++ more) h.1 ∙ append_assoc first h.0 more)

pub starts_trans : (all mid first : List Request) → StartsWith all mid → StartsWith mid first → StartsWith all first
starts_trans all mid first h k = (k.0 ++ h.0, h.1 ∙ (ap (λ l. l ++ h.0) k.1 ∙ append_assoc first k.0 h.0))

-- a list that is one longer than what it begins with
one_longer : (base l rest : List Request) → l ≡ base ++ rest → length l ≡ length base + 1 → (q : Request) × (l ≡ base ++ q ∷ [])
one_longer base l [] e n = absurd (omega (arith, n, ap length e, length-append base []))
one_longer base l (q ∷ []) e n = (q, e)
one_longer base l (q ∷ p ∷ rest) e n = absurd (omega (arith, n, ap length e, length-append base (q ∷ p ∷ rest)))

-- two lists that are one longer than what both begin with, and that end alike, are the same
pub same_ends : (base one two : List Request) → StartsWith one base → StartsWith two base → length one ≡ length base + 1 → length two ≡ length base + 1 → last_of one ≡ last_of two → one ≡ two
same_ends base one two h k n m ends =
    let a = one_longer base one h.0 h.1 n in
    let b = one_longer base two k.0 k.1 m in
    let e : last_of (base ++ a.0 ∷ []) ≡ last_of (base ++ b.0 ∷ []) = sym (ap last_of a.1) ∙ (ends ∙ ap last_of b.1) in
    let same : Some a.0 ≡ Some b.0 = sym (last_of-push base a.0) ∙ (e ∙ last_of-push base b.0) in
    let q : a.0 ≡ b.0 = cc same in
    a.1 ∙ (ap (λ (z : Request). base ++ z ∷ []) q ∙ sym b.1)

-- what begins with the base, is as long as the front and ends alike begins with the front
pub reaches : (base front now : List Request) → length base < length front → StartsWith front base → StartsWith now base → length front ≡ length base + 1 → length front ≤ 2 ^ 62
    → version_of now ≡ length front → last_of now ≡ last_of front → StartsWith now front
reaches base front now less h k n small count ends =
    let m : length now ≡ length base + 1 = omega (arith, count, n, small) in
    let same : front ≡ now = same_ends base front now h k n m (sym ends) in
    ([], sym same ∙ sym (append-nil front))

-- a list has no smaller version than what begins it
pub version_grows : (all first : List Request) → StartsWith all first → version_of first ≤ version_of all
version_grows all first h = let n = ap length h.1 ∙ length-append first h.0 in omega (arith, n)
