-- Frames of ports, entry by entry.
use Rattle.std.proofs.Common.{◌≡◌, ℕ, ◌+◌, ◌≤◌, ◌<◌, List, [], ◌∷◌, ◌++◌, ap, subst, sym, ◌∙◌, ⊎_elim, arith, refl, true, false, ◌≢◌}
use Rattle.std.specs.Prelude.{unwrap_or, cond, nat_eq}
use Rattle.std.specs.List.{sum_by, AllByRecursion}
use Rattle.std.specs.List.Sorted.{IsStrictlySortedBy}
use Rattle.std.specs.Ordering.{nat_cmp, is_eq}
use Rattle.std.specs.declared.cmp.Ordering.TheVariants.{Less}
use Rattle.std.specs.Map.{lookup, keys_of}
use Rattle.std.specs.BTreeMap.{BTreeMap, is_at}
use Rattle.std.proofs.lemmas.Bool.Decides.{nat_tests}
use Rattle.std.proofs.lemmas.Bool.{cases_eq}
use Rattle.std.proofs.lemmas.List.Sums.{sum_by-cons, sum_by-append}
use Rattle.frame_stats.specs.Ports.{in_map}

-- what these entries have for a port, added up
abbrev pub sum_at : ℕ → List (ℕ × ℕ) → ℕ
sum_at q es = sum_by (λ e. cond (nat_eq e.0 q) e.1 0) es

same_test : (k q : ℕ) → is_eq (nat_cmp k q) ≡ nat_eq k q
same_test k q = grind (arith, nat_tests)

apart : (q k : ℕ) → nat_cmp q k ≡ Less → nat_eq k q ≡ false
apart q k h = grind (arith, nat_tests)

none_after : (q : ℕ) (es : List (ℕ × ℕ)) → AllByRecursion (λ k. nat_cmp q k ≡ Less) (keys_of es) → sum_at q es ≡ 0
none_after q [] h = refl
none_after q (e ∷ es) h =
    let more = sum_by-cons (λ (x : ℕ × ℕ). cond (nat_eq x.0 q) x.1 0) e es in
    let rest = none_after q es h.1 in
    let this : cond (nat_eq e.0 q) e.1 0 ≡ 0 = rw (apart q e.0 h.0) refl in
    omega (arith, more, rest, this)

-- of entries with keys in order, what they have for a port is what is found
pub sum_at_entries : (q : ℕ) (es : List (ℕ × ℕ)) → IsStrictlySortedBy nat_cmp (keys_of es) → sum_at q es ≡ unwrap_or (lookup (is_at (nat_cmp q)) es) 0
unfolding IsStrictlySortedBy
sum_at_entries q [] s = refl
sum_at_entries q (e ∷ es) s =
    let more = sum_by-cons (λ (x : ℕ × ℕ). cond (nat_eq x.0 q) x.1 0) e es in
    ⊎_elim
    (λ (same : e.0 ≡ q).
    let none = none_after q es (subst (λ (k : ℕ). AllByRecursion (λ j. nat_cmp k j ≡ Less) (keys_of es)) same s.0) in
    let this : nat_eq e.0 q ≡ true = grind (arith, nat_tests) in
    let there : is_eq (nat_cmp q e.0) ≡ true = same_test q e.0 ∙ grind (arith, nat_tests) in
    more ∙ rw (this, there, none) (omega arith))
    (λ (other : e.0 ≢ q).
    let this : nat_eq e.0 q ≡ false = grind (arith, nat_tests) in
    let there : is_eq (nat_cmp q e.0) ≡ false = same_test q e.0 ∙ grind (arith, nat_tests) in
    let rest = sum_at_entries q es s.1 in
    more ∙ rw (this, there) (omega (arith, rest)))
    (cases_eq e.0 q)

-- those so far and the next are no more than all
pub sum_at_part : (q n : ℕ) (all front rest : List (ℕ × ℕ)) → all ≡ front ++ (q, n) ∷ rest → sum_at q front + n ≤ sum_at q all
sum_at_part q n all front rest e =
    let split : sum_at q all ≡ sum_at q front + sum_at q ((q, n) ∷ rest) = ap (sum_at q) e ∙ sum_by-append (λ (x : ℕ × ℕ). cond (nat_eq x.0 q) x.1 0) front ((q, n) ∷ rest) in
    let more : sum_at q ((q, n) ∷ rest) ≡ cond (nat_eq q q) n 0 + sum_at q rest = sum_by-cons (λ (x : ℕ × ℕ). cond (nat_eq x.0 q) x.1 0) (q, n) rest in
    let this : nat_eq q q ≡ true = grind (arith, nat_tests) in
    let here : cond (nat_eq q q) n 0 ≡ n = rw this refl in
    omega (arith, split, more, here)

-- those of a map so far and the next are no more than what it has
pub entry_part : (m : BTreeMap ℕ ℕ) (q n : ℕ) (front rest : List (ℕ × ℕ)) → IsStrictlySortedBy nat_cmp (keys_of m.entries) → m.entries ≡ front ++ (q, n) ∷ rest
    → sum_at q front + n ≤ in_map m q
entry_part m q n front rest sorted e =
    let part = sum_at_part q n m.entries front rest e in
    let found = sum_at_entries q m.entries sorted in
    omega (arith, part, found)

-- what holds of the port of each entry holds of the next one's too
pub holds_push : (P : ℕ → Type 0) (es : List (ℕ × ℕ)) (e : ℕ × ℕ) → AllByRecursion (λ x. P x.0) es → P e.0 → AllByRecursion (λ x. P x.0) (es ++ e ∷ [])
holds_push P [] e all last = (last, tt)
holds_push P (x ∷ xs) e all last = (all.0, holds_push P xs e all.1 last)

-- what holds of the port of each entry holds of a port that has something in them
pub found_holds : (P : ℕ → Type 0) (q : ℕ) (es : List (ℕ × ℕ)) → AllByRecursion (λ x. P x.0) es → 0 < unwrap_or (lookup (is_at (nat_cmp q)) es) 0 → P q
found_holds P q [] all some = absurd (omega arith)
found_holds P q (e ∷ es) all some =
    ⊎_elim
    (λ (same : q ≡ e.0). subst P (sym same) all.0)
    (λ (other : q ≢ e.0).
    let there : is_eq (nat_cmp q e.0) ≡ false = same_test q e.0 ∙ grind (arith, nat_tests) in
    let rest : 0 < unwrap_or (lookup (is_at (nat_cmp q)) es) 0 = rw there at some in
    found_holds P q es all.1 rest)
    (cases_eq q e.0)
