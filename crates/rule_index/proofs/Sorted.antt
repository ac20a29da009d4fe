-- The order is that of rank and place, and has each entry once.
use Rattle.std.proofs.Common.{◌≡◌, ◌==◌, ℕ, zero, suc, ◌+◌, ◌<◌, ◌≤◌, Bool, true, false, cond, List, [], ◌∷◌, ◌++◌, length, map, get_or, refl, ap, sym, ◌∙◌, arith, zero-add, subst, append_assoc, length-append, nat_lt}
use Rattle.std.proofs.Math.Seq.{get_or-append_seam}
use Rattle.std.proofs.lemmas.Bool.{eqb-true, eq-eqb, lt-ltb}
use Rattle.std.proofs.Math.Bool.{or-true}
use Rattle.std.proofs.lemmas.List.{length-map, map-append, get_or-append-add, get_or_append_left}
use Rattle.vlan_rule.specs.declared.rank.Rank.{Rank}
use Rattle.vlan_rule.specs.declared.rank.Rank.TheVariants.{Ordinary, Default, Predefined}
use Rattle.vlan_rule.specs.Choice.{entry_at, is_before, rank_at}
use Rattle.vlan_rule.specs.Meaning.{rank_number, rank_of}
use Rattle.rule_index.specs.declared.row.Row.{Row}
use Rattle.rule_index.specs.Order.{order_of, row_of, rows_from, rows_of, IsOrder}
use Rattle.rule_index.proofs.Reading.{Each, each-append, each-implies}

-- ---- lists that a relation orders

Sorted : {A : Type 0} → (A → A → Type 0) → List A → Type 0
Sorted R [] = Unit {0}
Sorted R (x ∷ xs) = Each (R x) xs × Sorted R xs

sorted-append : {A : Type 0} (R : A → A → Type 0) (xs ys : List A) → Sorted R xs → Sorted R ys → Each (λ x. Each (R x) ys) xs → Sorted R (xs ++ ys)
unfolding Sorted Each
sorted-append R [] ys a b c = b
sorted-append R (x ∷ xs) ys a b c = (each-append (R x) xs ys a.0 c.0, sorted-append R xs ys a.1 b c.1)

each-map : {A B : Type 0} (P : B → Type 0) (f : A → B) (xs : List A) → Each (λ x. P (f x)) xs → Each P (map f xs)
unfolding Each
each-map P f [] each = tt
each-map P f (x ∷ xs) each = (each.0, each-map P f xs each.1)

sorted-map : {A B : Type 0} (R : B → B → Type 0) (f : A → B) (xs : List A) → Sorted (λ x y. R (f x) (f y)) xs → Sorted R (map f xs)
unfolding Sorted
sorted-map R f [] sorted = tt
sorted-map R f (x ∷ xs) sorted = (each-map (R (f x)) f xs sorted.0, sorted-map R f xs sorted.1)

each-at : (P : ℕ → Type 0) (xs : List ℕ) (a : ℕ) → Each P xs → a < length xs → P (get_or xs a 0)
unfolding Each
each-at P [] a each within = absurd (omega arith)
each-at P (x ∷ xs) zero each within = each.0
each-at P (x ∷ xs) (suc a) each within = each-at P xs a each.1 (omega arith)

sorted-at : (R : ℕ → ℕ → Type 0) (xs : List ℕ) (a b : ℕ) → Sorted R xs → a < b → b < length xs → R (get_or xs a 0) (get_or xs b 0)
unfolding Sorted
sorted-at R [] a b sorted less within = absurd (omega arith)
sorted-at R (x ∷ xs) a zero sorted less within = absurd (omega arith)
sorted-at R (x ∷ xs) zero (suc b) sorted less within = each-at (R x) xs b sorted.0 (omega arith)
sorted-at R (x ∷ xs) (suc a) (suc b) sorted less within = sorted-at R xs a b sorted.1 (omega arith) (omega arith)

-- ---- the rows of a rank

record IsOf (rank low : ℕ) (entries : List (List ℕ)) (row : Row) : Type 0 where
  from : low ≤ row.place
  within : row.place < length entries
  ranked : rank_at entries row.place ≡ rank

of-from : (rank : ℕ) (before after : List (List ℕ)) → Each (IsOf rank (length before) (before ++ after)) (rows_from rank (length before) after)
unfolding rows_from Each
of-from rank before [] = tt
of-from rank before (e ∷ after) =
    let all = before ++ e ∷ after in
    let P : List (List ℕ) → Type 0 = λ all. Each (IsOf rank (length (before ++ e ∷ [])) all) (rows_from rank (length (before ++ e ∷ [])) after) in
    let Q : ℕ → Type 0 = λ n. Each (IsOf rank n all) (rows_from rank n after) in
    let rest = subst Q (length-append before (e ∷ [])) (subst P (append_assoc before (e ∷ []) after) (of-from rank (before ++ e ∷ []) after)) in
    by_case (each-implies (IsOf rank (length before + 1) all) (IsOf rank (length before) all) (rows_from rank (length before + 1) after)
    (λ row h. record { from = omega (arith, h.from); within = h.within; ranked = h.ranked }) rest) (rank_number (rank_of e) == rank) refl
  where
    here : entry_at (before ++ e ∷ after) (length before) ≡ e
    here = get_or-append_seam before e after []

    by_case : Each (IsOf rank (length before) (before ++ e ∷ after)) (rows_from rank (length before + 1) after) → (b : Bool) → (rank_number (rank_of e) == rank) ≡ b
        → Each (IsOf rank (length before) (before ++ e ∷ after)) (cond b (row_of (length before) e ∷ rows_from rank (length before + 1) after) (rows_from rank (length before + 1) after))
    by_case rest true is = (
      record {
        from = omega arith;
        within = omega (arith, length-append before (e ∷ after));
        ranked = ap (λ (e : List ℕ). rank_number (rank_of e)) here ∙ eqb-true _ _ is;
      },
      rest,
    )
    by_case rest false is = rest

Precedes : List (List ℕ) → ℕ → ℕ → Type 0
Precedes entries i j = is_before entries i j ≡ true

by_rank : (entries : List (List ℕ)) (i j : ℕ) → rank_at entries i < rank_at entries j → Precedes entries i j
unfolding Precedes
by_rank entries i j less = rw (lt-ltb (rank_at entries i) (rank_at entries j) less) refl

by_place : (entries : List (List ℕ)) (i j : ℕ) → rank_at entries i ≡ rank_at entries j → i < j → Precedes entries i j
unfolding Precedes
by_place entries i j same less = rw (eq-eqb (rank_at entries i) (rank_at entries j) same, lt-ltb i j less) (or-true (nat_lt (rank_at entries i) (rank_at entries j)))

sorted-from : (rank : ℕ) (before after : List (List ℕ)) → Sorted (λ x y. Precedes (before ++ after) x.place y.place) (rows_from rank (length before) after)
unfolding rows_from Sorted
sorted-from rank before [] = tt
sorted-from rank before (e ∷ after) =
    let all = before ++ e ∷ after in
    let P : List (List ℕ) → Type 0 = λ all. Sorted (λ x y. Precedes all x.place y.place) (rows_from rank (length (before ++ e ∷ [])) after) in
    let Q : ℕ → Type 0 = λ n. Sorted (λ x y. Precedes all x.place y.place) (rows_from rank n after) in
    let rest = subst Q (length-append before (e ∷ [])) (subst P (append_assoc before (e ∷ []) after) (sorted-from rank (before ++ e ∷ []) after)) in
    let P' : List (List ℕ) → Type 0 = λ all. Each (IsOf rank (length (before ++ e ∷ [])) all) (rows_from rank (length (before ++ e ∷ [])) after) in
    let Q' : ℕ → Type 0 = λ n. Each (IsOf rank n all) (rows_from rank n after) in
    let later = subst Q' (length-append before (e ∷ [])) (subst P' (append_assoc before (e ∷ []) after) (of-from rank (before ++ e ∷ []) after)) in
    by_case rest later (rank_number (rank_of e) == rank) refl
  where
    here : entry_at (before ++ e ∷ after) (length before) ≡ e
    here = get_or-append_seam before e after []

    by_case : Sorted (λ x y. Precedes (before ++ e ∷ after) x.place y.place) (rows_from rank (length before + 1) after)
        → Each (IsOf rank (length before + 1) (before ++ e ∷ after)) (rows_from rank (length before + 1) after)
        → (b : Bool) → (rank_number (rank_of e) == rank) ≡ b
        → Sorted (λ x y. Precedes (before ++ e ∷ after) x.place y.place) (cond b (row_of (length before) e ∷ rows_from rank (length before + 1) after) (rows_from rank (length before + 1) after))
    by_case rest later true is = (
      each-implies (IsOf rank (length before + 1) (before ++ e ∷ after)) (λ y. Precedes (before ++ e ∷ after) (length before) y.place) (rows_from rank (length before + 1) after)
          (λ y h. by_place (before ++ e ∷ after) (length before) y.place (ap (λ (e : List ℕ). rank_number (rank_of e)) here ∙ eqb-true _ _ is ∙ sym h.ranked) (omega (arith, h.from))) later,
      rest,
    )
    by_case rest later false is = rest

across : (r s : ℕ) (entries : List (List ℕ)) (xs ys : List Row) → r < s → Each (IsOf r 0 entries) xs → Each (IsOf s 0 entries) ys
    → Each (λ x. Each (λ y. Precedes entries x.place y.place) ys) xs
across r s entries xs ys less of_r of_s =
    each-implies (IsOf r 0 entries) (λ x. Each (λ y. Precedes entries x.place y.place) ys) xs
    (λ x h. each-implies (IsOf s 0 entries) (λ y. Precedes entries x.place y.place) ys
    (λ y k. by_rank entries x.place y.place (omega (arith, h.ranked, k.ranked, less))) of_s) of_r

both : (entries : List (List ℕ)) (xs ys zs : List Row) → Each (λ x. Each (λ y. Precedes entries x.place y.place) ys) xs
    → Each (λ x. Each (λ y. Precedes entries x.place y.place) zs) xs → Each (λ x. Each (λ y. Precedes entries x.place y.place) (ys ++ zs)) xs
unfolding Each
both entries [] ys zs a b = tt
both entries (x ∷ xs) ys zs a b = (each-append (λ y. Precedes entries x.place y.place) ys zs a.0 b.0, both entries xs ys zs a.1 b.1)

rows-sorted : (entries : List (List ℕ)) → Sorted (λ x y. Precedes entries x.place y.place) (rows_of entries)
unfolding rows_of
rows-sorted entries =
    let a = rows_from 0 0 entries in
    let b = rows_from 1 0 entries in
    let c = rows_from 2 0 entries in
    let R : Row → Row → Type 0 = λ x y. Precedes entries x.place y.place in
    sorted-append R a (b ++ c) (sorted-from 0 [] entries)
    (sorted-append R b c (sorted-from 1 [] entries) (sorted-from 2 [] entries) (across 1 2 entries b c (omega arith) (of-from 1 [] entries) (of-from 2 [] entries)))
    (both entries a b c (across 0 1 entries a b (omega arith) (of-from 0 [] entries) (of-from 1 [] entries)) (across 0 2 entries a c (omega arith) (of-from 0 [] entries) (of-from 2 [] entries)))

rows-within : (entries : List (List ℕ)) → Each (λ (row : Row). row.place < length entries) (rows_of entries)
unfolding rows_of
rows-within entries =
    let W : Row → Type 0 = λ row. row.place < length entries in
    let at : (rank : ℕ) → Each W (rows_from rank 0 entries) =
    λ rank. each-implies (IsOf rank 0 entries) W (rows_from rank 0 entries) (λ row h. h.within) (of-from rank [] entries) in
    each-append W (rows_from 0 0 entries) (rows_from 1 0 entries ++ rows_from 2 0 entries) (at 0)
    (each-append W (rows_from 1 0 entries) (rows_from 2 0 entries) (at 1) (at 2))

-- ---- each entry has a number

Holds : List Row → ℕ → Type 0
Holds rows i = (a : ℕ) × (a < length rows) × (get_or (map (λ (row : Row). row.place) rows) a 0 ≡ i)

holds-left : (xs ys : List Row) (i : ℕ) → Holds xs i → Holds (xs ++ ys) i
unfolding Holds
holds-left xs ys i h =
    let place : Row → ℕ = λ row. row.place in
    let within : h.0 < length (map place xs) = omega (arith, length-map xs place, h.1) in (
      h.0,
      omega (arith, h.1, length-append xs ys),
      ap (λ (n : List ℕ). get_or n h.0 0) (map-append place xs ys) ∙ get_or_append_left (map place xs) (map place ys) 0 h.0 within ∙ h.2,
    )

holds-right : (xs ys : List Row) (i : ℕ) → Holds ys i → Holds (xs ++ ys) i
unfolding Holds
holds-right xs ys i h =
    let place : Row → ℕ = λ row. row.place in (
      length xs + h.0,
      omega (arith, h.1, length-append xs ys),
      ap (λ (n : List ℕ). get_or n (length xs + h.0) 0) (map-append place xs ys)
          ∙ ap (λ n. get_or (map place xs ++ map place ys) (n + h.0) 0) (sym (length-map xs place))
          ∙ get_or-append-add (map place xs) (map place ys) h.0 0 ∙ h.2,
    )

holds-from : (rank n : ℕ) (entries : List (List ℕ)) (k : ℕ) → k < length entries → rank_number (rank_of (get_or entries k [])) ≡ rank → Holds (rows_from rank n entries) (n + k)
unfolding rows_from Holds
holds-from rank n [] k within is = absurd (omega arith)
holds-from rank n (e ∷ rest) zero within is =
    rw (eq-eqb _ _ is) (0, omega arith, omega arith)
holds-from rank n (e ∷ rest) (suc k) within is =
    let later = holds-from rank (n + 1) rest k (omega arith) is in
    by_case later (rank_number (rank_of e) == rank)
  where
    by_case : Holds (rows_from rank (n + 1) rest) (n + 1 + k) → (b : Bool)
        → Holds (cond b (row_of n e ∷ rows_from rank (n + 1) rest) (rows_from rank (n + 1) rest)) (n + suc k)
    by_case h true = (suc h.0, omega (arith, h.1), h.2 ∙ omega arith)
    by_case h false = (h.0, h.1, h.2 ∙ omega arith)

rows-hold : (entries : List (List ℕ)) (i : ℕ) → i < length entries → Holds (rows_of entries) i
unfolding rows_of
rows-hold entries i within = by_case (rank_of (get_or entries i [])) refl
  where
    place : (rank : Rank) → rank_of (get_or entries i []) ≡ rank → Holds (rows_from (rank_number rank) 0 entries) i
    place rank is =
        let P : ℕ → Type 0 = λ n. Holds (rows_from (rank_number rank) 0 entries) n in
        subst P (zero-add i) (holds-from (rank_number rank) 0 entries i within (ap rank_number is))

    by_case : (rank : Rank) → rank_of (get_or entries i []) ≡ rank → Holds (rows_from 0 0 entries ++ (rows_from 1 0 entries ++ rows_from 2 0 entries)) i
    by_case Ordinary is = holds-left (rows_from 0 0 entries) (rows_from 1 0 entries ++ rows_from 2 0 entries) i (place Ordinary is)
    by_case Default is = holds-right (rows_from 0 0 entries) (rows_from 1 0 entries ++ rows_from 2 0 entries) i
        (holds-left (rows_from 1 0 entries) (rows_from 2 0 entries) i (place Default is))
    by_case Predefined is = holds-right (rows_from 0 0 entries) (rows_from 1 0 entries ++ rows_from 2 0 entries) i
        (holds-right (rows_from 1 0 entries) (rows_from 2 0 entries) i (place Predefined is))

-- ---- the law

pub is_order : (entries : List (List ℕ)) → IsOrder entries (order_of entries)
unfolding Precedes Holds
is_order entries =
    let place : Row → ℕ = λ row. row.place in
    let rows = rows_of entries in
    let W : ℕ → Type 0 = λ i. i < length entries in
    record {
      within = λ a h. each-at W (order_of entries) a (each-map W place rows (rows-within entries)) h;
      ascending = λ a b less h. sorted-at (Precedes entries) (order_of entries) a b (sorted-map (Precedes entries) place rows (rows-sorted entries)) less h;
      whole = λ i h. let held = rows-hold entries i h in (held.0, omega (arith, held.1, length-map rows place), held.2);
    }
