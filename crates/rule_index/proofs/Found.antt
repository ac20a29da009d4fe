-- The first row that matches is that of the chosen entry.
use Rattle.std.proofs.Common.{◌≡◌, ◌≢◌, ◌==◌, ℕ, zero, suc, ◌+◌, ◌<◌, ◌≤◌, Bool, true, false, ◌&&◌, cond, List, [], ◌∷◌, ◌++◌, Option, Some, None, length, refl, ap, sym, ◌∙◌, arith, ◌⊎◌, inl, inr, length-append, add-zero, zero-add, take, get_or}
use Rattle.std.specs.List.{position_from}
use Rattle.std.specs.Option.{option_map, option_or}
use Rattle.std.proofs.lemmas.Iterator.Adapters.{position_from-zero}
use Rattle.std.proofs.lemmas.Bool.{eq-eqb}
use Rattle.std.proofs.lemmas.Bool.Decides.{eqb_tells}
use Rattle.std.proofs.lemmas.List.{take_more, length-take-le}
use Rattle.tag_view.specs.Tag.{TagFields}
use Rattle.vlan_rule.specs.declared.rank.Rank.{Rank}
use Rattle.vlan_rule.specs.declared.rank.Rank.TheVariants.{Ordinary, Default, Predefined}
use Rattle.vlan_rule.specs.Meaning.{rank_number, rank_of}
use Rattle.vlan_rule.specs.Choice.{choice, first_of, matches}
use Rattle.rule_index.specs.declared.row.Row.{Row}
use Rattle.std.specs.Prelude.{slice_get}
use lib.Count.{count_trailing_zeros}
use Rattle.rule_index.specs.Masks.{first, mask_of}
use Rattle.rule_index.proofs.MaskLaws.{first-at, none-at}
use Rattle.rule_index.specs.Order.{order_of, row_of, rows_from, rows_of, row_matches}
use Rattle.std.proofs.lemmas.Option.{slice_get-map}

-- ---- the first row that passes

first-append : {A : Type 0} (p : A → Bool) (xs ys : List A) → first p (xs ++ ys) ≡ option_or (first p xs) (first p ys)
first-append p [] ys = refl
first-append {A} p (x ∷ xs) ys = by_case (first-append p xs ys) (p x)
  where
    by_case : first p (xs ++ ys) ≡ option_or (first p xs) (first p ys)
        → (b : Bool) → cond b (Some x) (first p (xs ++ ys)) ≡ option_or (cond b (Some x) (first p xs)) (first p ys)
    by_case rest true = refl
    by_case rest false = rest

place_in : Option Row → Option ℕ
place_in row = option_map (λ (r : Row). r.place) row

first-from : (p : Row → Bool) (test : List ℕ → Bool) → ((n : ℕ) (e : List ℕ) → p (row_of n e) ≡ test e)
    → (rank place : ℕ) (entries : List (List ℕ))
    → place_in (first p (rows_from rank place entries)) ≡ position_from (λ e. rank_number (rank_of e) == rank && test e) place entries
unfolding rows_from place_in
first-from p test same rank place [] = refl
first-from p test same rank place (e ∷ rest) =
    by_case (first-from p test same rank (place + 1) rest) (same place e) (rank_number (rank_of e) == rank)
  where
    later : Option ℕ
    later = position_from (λ e. rank_number (rank_of e) == rank && test e) (place + 1) rest

    by_case : place_in (first p (rows_from rank (place + 1) rest)) ≡ later → p (row_of place e) ≡ test e → (b : Bool)
        → place_in (first p (cond b (row_of place e ∷ rows_from rank (place + 1) rest) (rows_from rank (place + 1) rest)))
        ≡ cond (b && test e) (Some place) later
    by_case ih here false = ih
    by_case ih here true = rw here (passed ih (test e))
      where
        passed : place_in (first p (rows_from rank (place + 1) rest)) ≡ later → (b : Bool)
            → place_in (cond b (Some (row_of place e)) (first p (rows_from rank (place + 1) rest))) ≡ cond b (Some place) later
        passed ih true = refl
        passed ih false = ih

first-of : (p : Row → Bool) (test : List ℕ → Bool) → ((n : ℕ) (e : List ℕ) → p (row_of n e) ≡ test e) → (rank : Rank) (entries : List (List ℕ))
    → place_in (first p (rows_from (rank_number rank) 0 entries)) ≡ first_of rank test entries
first-of p test same rank entries =
    first-from p test same (rank_number rank) 0 entries
    ∙ sym (position_from-zero (λ e. rank_number (rank_of e) == rank_number rank && test e) entries)

place-or : (a b : Option Row) → place_in (option_or a b) ≡ option_or (place_in a) (place_in b)
unfolding place_in
place-or None b = refl
place-or (Some r) b = refl

-- the place of the first row that passes is the one that is chosen
pub chosen : (p : Row → Bool) (test : List ℕ → Bool) → ((n : ℕ) (e : List ℕ) → p (row_of n e) ≡ test e) → (entries : List (List ℕ))
    → option_map (λ (r : Row). r.place) (first p (rows_of entries)) ≡ choice test entries
unfolding rows_of choice place_in
chosen p test same entries =
    let a = rows_from 0 0 entries in
    let b = rows_from 1 0 entries in
    let c = rows_from 2 0 entries in
    ap place_in (first-append p a (b ++ c)) ∙ place-or (first p a) (first p (b ++ c))
    ∙ ap (λ (o : Option Row). option_or (place_in (first p a)) (place_in o)) (first-append p b c)
    ∙ ap (λ (o : Option ℕ). option_or (place_in (first p a)) o) (place-or (first p b) (first p c))
    ∙ three (first-of p test same Ordinary entries) (first-of p test same Default entries) (first-of p test same Predefined entries)
  where
    three : {a b c d e f : Option ℕ} → a ≡ d → b ≡ e → c ≡ f → option_or a (option_or b c) ≡ option_or d (option_or e f)
    three x y z = rw (x, y, z) refl

pub row-matches : (input : ℕ) (tags : List TagFields) (type : ℕ) (n : ℕ) (e : List ℕ) → row_matches input tags type (row_of n e) ≡ matches input tags type e
unfolding matches
row-matches input tags type n e = refl

-- the row at the lowest bit of the mask of those that match is that of the chosen entry
pub found : (entries : List (List ℕ)) (rows : List Row) (input type : ℕ) (tags : List TagFields) (mask : ℕ) → rows ≡ rows_of entries → length rows ≤ 128
    → mask ≡ mask_of (λ row. row_matches input tags type row) rows
    → option_map (λ (r : Row). r.place) (slice_get rows (count_trailing_zeros 128 mask)) ≡ choice (matches input tags type) entries
found entries rows input type tags mask of_entries few is =
    ap (λ (n : ℕ). option_map (λ (r : Row). r.place) (slice_get rows (count_trailing_zeros 128 n))) is
    ∙ ap (λ (r : Option Row). option_map (λ (r : Row). r.place) r) (first-at (λ row. row_matches input tags type row) rows 128 few)
    ∙ ap (λ (rows : List Row). option_map (λ (r : Row). r.place) (first (λ row. row_matches input tags type row) rows)) of_entries
    ∙ chosen (λ row. row_matches input tags type row) (matches input tags type) (λ n e. row-matches input tags type n e) entries

-- and it is the same number in the order of the places
pub numbered : (entries : List (List ℕ)) (rows : List Row) (input type : ℕ) (tags : List TagFields) (mask : ℕ) → rows ≡ rows_of entries → length rows ≤ 128
    → mask ≡ mask_of (λ row. row_matches input tags type row) rows
    → slice_get (order_of entries) (count_trailing_zeros 128 mask) ≡ choice (matches input tags type) entries
numbered entries rows input type tags mask of_entries few is =
    slice_get-map (λ (row : Row). row.place) (rows_of entries) (count_trailing_zeros 128 mask)
    ∙ ap (λ (rows : List Row). option_map (λ (row : Row). row.place) (slice_get rows (count_trailing_zeros 128 mask))) (sym of_entries)
    ∙ found entries rows input type tags mask of_entries few is

-- where none is chosen no bit is set
pub none_numbered : (entries : List (List ℕ)) (rows : List Row) (input type : ℕ) (tags : List TagFields) (mask : ℕ) → rows ≡ rows_of entries → length rows ≤ 128
    → mask ≡ mask_of (λ row. row_matches input tags type row) rows → choice (matches input tags type) entries ≡ None
    → count_trailing_zeros 128 mask ≡ 128
none_numbered entries rows input type tags mask of_entries few is none =
    let test : Row → Bool = λ row. row_matches input tags type row in
    let first_none : first test (rows_of entries) ≡ None =
    no_row (first test (rows_of entries)) (chosen test (matches input tags type) (λ n e. row-matches input tags type n e) entries ∙ none) in
    ap (λ (n : ℕ). count_trailing_zeros 128 n) is
    ∙ none-at test rows 128 (ap (λ (rows : List Row). first test rows) of_entries ∙ first_none)
  where
    no_row : (row : Option Row) → option_map (λ (r : Row). r.place) row ≡ None → row ≡ None
    no_row None is = refl
    no_row (Some r) is = cc

-- ---- how many rows there are

one_of_three : (r a b c n : ℕ) → a + b + c ≤ n
    → cond (r == 0) (suc a) a + cond (r == 1) (suc b) b + cond (r == 2) (suc c) c ≤ suc n
one_of_three r a b c n less = by_case (eqb_tells r 0) (eqb_tells r 1) (eqb_tells r 2)
  where
    by_case : (((r == 0) ≡ true) × (r ≡ 0)) ⊎ (((r == 0) ≡ false) × (r ≢ 0)) → (((r == 1) ≡ true) × (r ≡ 1)) ⊎ (((r == 1) ≡ false) × (r ≢ 1))
        → (((r == 2) ≡ true) × (r ≡ 2)) ⊎ (((r == 2) ≡ false) × (r ≢ 2))
        → cond (r == 0) (suc a) a + cond (r == 1) (suc b) b + cond (r == 2) (suc c) c ≤ suc n
    by_case (inl x) (inl y) z = absurd (omega (arith, x.1, y.1))
    by_case (inl x) (inr y) (inl z) = absurd (omega (arith, x.1, z.1))
    by_case (inl x) (inr y) (inr z) = rw (x.0, y.0, z.0) (omega (arith, less))
    by_case (inr x) (inl y) (inl z) = absurd (omega (arith, y.1, z.1))
    by_case (inr x) (inl y) (inr z) = rw (x.0, y.0, z.0) (omega (arith, less))
    by_case (inr x) (inr y) (inl z) = rw (x.0, y.0, z.0) (omega (arith, less))
    by_case (inr x) (inr y) (inr z) = rw (x.0, y.0, z.0) (omega (arith, less))

length-if : {A : Type 0} (b : Bool) (x : A) (xs : List A) → length (cond b (x ∷ xs) xs) ≡ cond b (suc (length xs)) (length xs)
length-if true x xs = refl
length-if false x xs = refl

pub three_ranks : (place : ℕ) (entries : List (List ℕ))
    → length (rows_from 0 place entries) + length (rows_from 1 place entries) + length (rows_from 2 place entries) ≤ length entries
unfolding rows_from
three_ranks place [] = omega arith
three_ranks place (e ∷ rest) =
    let r = rank_number (rank_of e) in
    let row = row_of place e in
    let a = rows_from 0 (place + 1) rest in
    let b = rows_from 1 (place + 1) rest in
    let c = rows_from 2 (place + 1) rest in
    rw (length-if (r == 0) row a, length-if (r == 1) row b, length-if (r == 2) row c)
    (one_of_three r (length a) (length b) (length c) (length rest) (three_ranks (place + 1) rest))

pub no_more_rows : (entries : List (List ℕ)) → length (rows_of entries) ≤ length entries
unfolding rows_of
no_more_rows entries =
    let a = rows_from 0 0 entries in
    let b = rows_from 1 0 entries in
    let c = rows_from 2 0 entries in
    rw (length-append a (b ++ c), length-append b c) (omega (arith, three_ranks 0 entries))

-- ---- one entry more

pub rows_from-push : (rank place : ℕ) (entries : List (List ℕ)) (e : List ℕ)
    → rows_from rank place (entries ++ e ∷ []) ≡ rows_from rank place entries ++ cond (rank_number (rank_of e) == rank) (row_of (place + length entries) e ∷ []) []
unfolding rows_from
rows_from-push rank place [] e = rw add-zero refl
rows_from-push rank place (x ∷ entries) e =
    let moved : place + 1 + length entries ≡ place + suc (length entries) = omega arith in
    by_case (rows_from-push rank (place + 1) entries e ∙ ap (λ n. rows_from rank (place + 1) entries ++ last n) moved) (rank_number (rank_of x) == rank)
  where
    last : ℕ → List Row
    last n = cond (rank_number (rank_of e) == rank) (row_of n e ∷ []) []

    more : List Row
    more = rows_from rank (place + 1) (entries ++ e ∷ [])

    same : List Row
    same = rows_from rank (place + 1) entries

    by_case : more ≡ same ++ last (place + suc (length entries)) → (b : Bool)
        → cond b (row_of place x ∷ more) more ≡ cond b (row_of place x ∷ same) same ++ last (place + suc (length entries))
    by_case ih true = ap (λ rows. row_of place x ∷ rows) ih
    by_case ih false = ih

-- the entry at a place more
pub rows_from-next : (rank : ℕ) (entries : List (List ℕ)) (i : ℕ) → i < length entries
    → rows_from rank 0 (take (i + 1) entries)
    ≡ rows_from rank 0 (take i entries) ++ cond (rank_number (rank_of (get_or entries i [])) == rank) (row_of i (get_or entries i []) ∷ []) []
rows_from-next rank entries i within =
    let before : length (take i entries) ≡ i = length-take-le i entries (omega arith) in
    ap (rows_from rank 0) (take_more entries i [] within)
    ∙ rows_from-push rank 0 (take i entries) (get_or entries i [])
    ∙ rw (before, zero-add i) refl

-- there are no more rows of the first entries than of all
rows_from-take : (rank place i : ℕ) (entries : List (List ℕ)) → length (rows_from rank place (take i entries)) ≤ length (rows_from rank place entries)
unfolding rows_from
rows_from-take rank place zero entries = omega arith
rows_from-take rank place (suc i) [] = omega arith
rows_from-take rank place (suc i) (e ∷ rest) = by_case (rows_from-take rank (place + 1) i rest) (rank_number (rank_of e) == rank)
  where
    some : List Row
    some = rows_from rank (place + 1) (take i rest)

    all : List Row
    all = rows_from rank (place + 1) rest

    by_case : length some ≤ length all → (b : Bool) → length (cond b (row_of place e ∷ some) some) ≤ length (cond b (row_of place e ∷ all) all)
    by_case less true = omega (arith, less)
    by_case less false = less

-- and fewer where the next entry is of the rank
pub room-left : (rank : ℕ) (entries : List (List ℕ)) (i : ℕ) → i < length entries → rank_number (rank_of (get_or entries i [])) ≡ rank
    → length (rows_from rank 0 (take i entries)) < length (rows_from rank 0 entries)
room-left rank entries i within has =
    let before = rows_from rank 0 (take i entries) in
    let row = row_of i (get_or entries i []) in
    let next : rows_from rank 0 (take (i + 1) entries) ≡ before ++ row ∷ [] = rows_from-next rank entries i within ∙ rw (eq-eqb _ _ has) refl in
    omega (arith, ap (λ (rows : List Row). length rows) next, length-append before (row ∷ []), rows_from-take rank 0 (i + 1) entries)
