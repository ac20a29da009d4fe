-- The order of a table that has one entry more.
use Rattle.std.proofs.Common.{◌≡◌, ◌==◌, ℕ, zero, suc, ◌+◌, ◌-◌, ◌<◌, ◌≤◌, Bool, true, false, cond, nat_lt, List, [], ◌∷◌, ◌++◌, Option, Some, length, map, get_or, take, drop, refl, ap, ap₂, sym, ◌∙◌, subst, arith, inl, inr, length-append, append-nil, zero-add, add-one}
use Rattle.std.specs.Prelude.{nat_le, slice_get}
use Rattle.std.specs.List.{insert, remove}
use Rattle.std.specs.Option.{option_map}
use Rattle.std.proofs.lemmas.Bool.{cases_eq, cond-false, cond-true, le-ltb, lt-ltb, ltb-false, ltb-true}
use Rattle.std.proofs.lemmas.List.{drop-map, drop_at, drop_more, length-map, length-take-le, map-append, take-append-drop, take-map, take_at, take_more}
use Rattle.std.proofs.lemmas.List.Edits.{get_or-insert_above, get_or-insert_at, get_or-insert_below, insert-append_left, insert-append_right}
use Rattle.std.proofs.lemmas.Option.{slice_get-map}
use Rattle.vlan_rule.specs.declared.rank.Rank.{Rank}
use Rattle.vlan_rule.specs.declared.rank.Rank.TheVariants.{Ordinary, Default, Predefined}
use Rattle.vlan_rule.specs.Choice.{entry_at}
use Rattle.vlan_rule.specs.Meaning.{rank_number, rank_of}
use Rattle.rule_index.specs.declared.row.Row.{Row}
use Rattle.rule_index.specs.Followed.{ranked, IsOneMore}
use Rattle.rule_index.specs.Order.{lowered, order_of, raised, row_of, rows_from, rows_of, up_to_rank}
use Rattle.rule_index.proofs.Following.{once}

-- ---- lists

pub map-map : {A B C : Type 0} (g : B → C) (f : A → B) (xs : List A) → map g (map f xs) ≡ map (λ x. g (f x)) xs
map-map g f [] = refl
map-map g f (x ∷ xs) = ap (λ (rest : List _). g (f x) ∷ rest) (map-map g f xs)

map-insert : {A B : Type 0} (f : A → B) (xs : List A) (i : ℕ) (y : A) → map f (insert xs i y) ≡ insert (map f xs) i (f y)
map-insert f xs i y =
    map-append f (take i xs) (y ∷ drop i xs)
    ∙ ap₂ (λ (a b : List _). a ++ f y ∷ b) (sym (take-map f i xs)) (sym (drop-map f i xs))

pub remove-insert : {A : Type 0} (xs : List A) (i : ℕ) (y : A) → i ≤ length xs → remove (insert xs i y) i ≡ xs
remove-insert xs zero y within = refl
remove-insert [] (suc i) y within = absurd (omega arith)
remove-insert (x ∷ xs) (suc i) y within = ap (λ (rest : List _). x ∷ rest) (remove-insert xs i y (omega arith))

insert-between : {A : Type 0} (xs ys : List A) (y : A) → insert (xs ++ ys) (length xs) y ≡ xs ++ y ∷ ys
insert-between xs ys y = ap₂ (λ (a b : List _). a ++ y ∷ b) (take_at xs ys (length xs) refl) (drop_at xs ys (length xs) refl)

insert-behind : {A : Type 0} (xs ys : List A) (k : ℕ) (y : A) → insert (xs ++ ys) (length xs + k) y ≡ xs ++ insert ys k y
insert-behind xs ys k y =
    let back : length xs + k - length xs ≡ k = omega arith in
    insert-append_right xs ys (length xs) (length xs + k) y refl (omega arith) ∙ ap (λ i. xs ++ insert ys i y) back

-- ---- the rows of a rank

rows_from-append : (rank n : ℕ) (xs ys : List (List ℕ)) → rows_from rank n (xs ++ ys) ≡ rows_from rank n xs ++ rows_from rank (n + length xs) ys
unfolding rows_from
rows_from-append rank n [] ys = let same : n ≡ n + 0 = omega arith in ap (λ k. rows_from rank k ys) same
rows_from-append rank n (x ∷ xs) ys =
    let moved : n + 1 + length xs ≡ n + suc (length xs) = omega arith in
    by_case (rows_from-append rank (n + 1) xs ys ∙ ap (λ k. rows_from rank (n + 1) xs ++ rows_from rank k ys) moved) (rank_number (rank_of x) == rank)
  where
    all : List Row
    all = rows_from rank (n + 1) (xs ++ ys)

    some : List Row
    some = rows_from rank (n + 1) xs

    rest : List Row
    rest = rows_from rank (n + suc (length xs)) ys

    by_case : all ≡ some ++ rest → (b : Bool) → cond b (row_of n x ∷ all) all ≡ cond b (row_of n x ∷ some) some ++ rest
    by_case ih true = ap (λ (rows : List Row). row_of n x ∷ rows) ih
    by_case ih false = ih

raised-below : (n p : ℕ) (e : List ℕ) → n < p → raised p (row_of n e) ≡ row_of n e
raised-below n p e less = ap (λ b. row_of (cond b n (n + 1)) e) (lt-ltb n p less)

raised-above : (n p : ℕ) (e : List ℕ) → p ≤ n → raised p (row_of n e) ≡ row_of (n + 1) e
raised-above n p e less = ap (λ b. row_of (cond b n (n + 1)) e) (le-ltb n p less)

raised-before : (rank n p : ℕ) (xs : List (List ℕ)) → n + length xs ≤ p → map (raised p) (rows_from rank n xs) ≡ rows_from rank n xs
unfolding rows_from
raised-before rank n p [] most = refl
raised-before rank n p (x ∷ xs) most =
    by_case (raised-before rank (n + 1) p xs (omega arith)) (raised-below n p x (omega arith)) (rank_number (rank_of x) == rank)
  where
    rest : List Row
    rest = rows_from rank (n + 1) xs

    by_case : map (raised p) rest ≡ rest → raised p (row_of n x) ≡ row_of n x → (b : Bool)
        → map (raised p) (cond b (row_of n x ∷ rest) rest) ≡ cond b (row_of n x ∷ rest) rest
    by_case ih here true = ap₂ (λ (r : Row) (rows : List Row). r ∷ rows) here ih
    by_case ih here false = ih

raised-behind : (rank n p : ℕ) (xs : List (List ℕ)) → p ≤ n → map (raised p) (rows_from rank n xs) ≡ rows_from rank (n + 1) xs
unfolding rows_from
raised-behind rank n p [] least = refl
raised-behind rank n p (x ∷ xs) least =
    by_case (raised-behind rank (n + 1) p xs (omega arith)) (raised-above n p x least) (rank_number (rank_of x) == rank)
  where
    rest : List Row
    rest = rows_from rank (n + 1) xs

    next : List Row
    next = rows_from rank (n + 1 + 1) xs

    by_case : map (raised p) rest ≡ next → raised p (row_of n x) ≡ row_of (n + 1) x → (b : Bool)
        → map (raised p) (cond b (row_of n x ∷ rest) rest) ≡ cond b (row_of (n + 1) x ∷ next) next
    by_case ih here true = ap₂ (λ (r : Row) (rows : List Row). r ∷ rows) here ih
    by_case ih here false = ih

-- the rows of two parts with an entry between
raised-parts : (rank : ℕ) (before after : List (List ℕ))
    → map (raised (length before)) (rows_from rank 0 (before ++ after)) ≡ rows_from rank 0 before ++ rows_from rank (0 + length before + 1) after
raised-parts rank before after =
    let f = raised (length before) in
    ap (λ (rows : List Row). map f rows) (rows_from-append rank 0 before after)
    ∙ map-append f (rows_from rank 0 before) (rows_from rank (0 + length before) after)
    ∙ ap₂ (λ (a b : List Row). a ++ b) (raised-before rank 0 (length before) before (omega arith)) (raised-behind rank (0 + length before) (length before) after (omega arith))

more-parts : (rank : ℕ) (before : List (List ℕ)) (e : List ℕ) (after : List (List ℕ)) (b : Bool) → (rank_number (rank_of e) == rank) ≡ b
    → rows_from rank 0 (before ++ e ∷ after)
    ≡ rows_from rank 0 before ++ cond b (row_of (0 + length before) e ∷ rows_from rank (0 + length before + 1) after) (rows_from rank (0 + length before + 1) after)
unfolding rows_from
more-parts rank before e after b is =
    rows_from-append rank 0 before (e ∷ after)
    ∙ ap (λ b. rows_from rank 0 before ++ cond b (row_of (0 + length before) e ∷ rows_from rank (0 + length before + 1) after) (rows_from rank (0 + length before + 1) after)) is

other-rank : (rank : ℕ) (before : List (List ℕ)) (e : List ℕ) (after : List (List ℕ)) → (rank_number (rank_of e) == rank) ≡ false
    → rows_from rank 0 (before ++ e ∷ after) ≡ map (raised (length before)) (rows_from rank 0 (before ++ after))
other-rank rank before e after is = more-parts rank before e after false is ∙ sym (raised-parts rank before after)

same-rank : (rank : ℕ) (before : List (List ℕ)) (e : List ℕ) (after : List (List ℕ)) → (rank_number (rank_of e) == rank) ≡ true
    → rows_from rank 0 (before ++ e ∷ after)
    ≡ insert (map (raised (length before)) (rows_from rank 0 (before ++ after))) (length (rows_from rank 0 before)) (row_of (length before) e)
same-rank rank before e after is =
    let first = rows_from rank 0 before in
    let rest = rows_from rank (0 + length before + 1) after in
    more-parts rank before e after true is
    ∙ ap (λ n. first ++ row_of n e ∷ rest) (zero-add (length before))
    ∙ sym (insert-between first rest (row_of (length before) e))
    ∙ ap (λ (rows : List Row). insert rows (length first) (row_of (length before) e)) (sym (raised-parts rank before after))

fewer-before : (rank : ℕ) (before after : List (List ℕ)) → length (rows_from rank 0 before) ≤ length (rows_from rank 0 (before ++ after))
fewer-before rank before after =
    omega (arith, ap (λ (rows : List Row). length rows) (rows_from-append rank 0 before after), length-append (rows_from rank 0 before) (rows_from rank (0 + length before) after))

-- ---- all rows

-- a table has an entry more at a place, which has a number: its row comes among the others
pub record IsRowMore (fewer more : List (List ℕ)) (place number : ℕ) (entry : List ℕ) : Type 0 where
  pub entries : more ≡ insert fewer place entry
  pub among : place ≤ length fewer
  pub within : number ≤ length (rows_of fewer)
  pub rows : rows_of more ≡ insert (map (raised place) (rows_of fewer)) number (row_of place entry)

-- the number of an entry between two parts of a table
number_of : Rank → List (List ℕ) → List (List ℕ) → ℕ
number_of Ordinary before after = length (rows_from 0 0 before)
number_of Default before after = length (rows_from 0 0 (before ++ after)) + length (rows_from 1 0 before)
number_of Predefined before after = length (rows_from 0 0 (before ++ after)) + (length (rows_from 1 0 (before ++ after)) + length (rows_from 2 0 before))

map-three : (f : Row → Row) (a b c : List Row) → map f (a ++ (b ++ c)) ≡ map f a ++ (map f b ++ map f c)
map-three f a b c = map-append f a (b ++ c) ∙ ap (λ (rows : List Row). map f a ++ rows) (map-append f b c)

insert-second : (a b c : List Row) (k : ℕ) (y : Row) (n : ℕ) → n ≡ length a → k ≤ length b → insert (a ++ (b ++ c)) (n + k) y ≡ a ++ (insert b k y ++ c)
insert-second a b c k y n is within =
    ap (λ n. insert (a ++ (b ++ c)) (n + k) y) is ∙ insert-behind a (b ++ c) k y
    ∙ ap (λ (rows : List Row). a ++ rows) (insert-append_left b c k y within)

insert-third : (a b c : List Row) (k : ℕ) (y : Row) (n m : ℕ) → n ≡ length a → m ≡ length b → insert (a ++ (b ++ c)) (n + (m + k)) y ≡ a ++ (b ++ insert c k y)
insert-third a b c k y n m is_n is_m =
    ap₂ (λ n m. insert (a ++ (b ++ c)) (n + (m + k)) y) is_n is_m ∙ insert-behind a (b ++ c) (length b + k) y
    ∙ ap (λ (rows : List Row). a ++ rows) (insert-behind b c k y)

rows-more : (before : List (List ℕ)) (e : List ℕ) (after : List (List ℕ)) (rank : Rank) → rank_of e ≡ rank
    → rows_of (before ++ e ∷ after) ≡ insert (map (raised (length before)) (rows_of (before ++ after))) (number_of rank before after) (row_of (length before) e)
unfolding rows_of number_of
rows-more before e after Ordinary is =
    let f = raised (length before) in
    let r = λ (k : ℕ). rows_from k 0 (before ++ after) in
    let row = row_of (length before) e in
    let k = length (rows_from 0 0 before) in
    let within : k ≤ length (map f (r 0)) = omega (arith, fewer-before 0 before after, length-map (r 0) f) in
    ap₂ (λ (a b : List Row). a ++ b) (same-rank 0 before e after (ap (λ rank. rank_number rank == 0) is))
    (ap₂ (λ (a b : List Row). a ++ b) (other-rank 1 before e after (ap (λ rank. rank_number rank == 1) is)) (other-rank 2 before e after (ap (λ rank. rank_number rank == 2) is)))
    ∙ sym (insert-append_left (map f (r 0)) (map f (r 1) ++ map f (r 2)) k row within)
    ∙ ap (λ (rows : List Row). insert rows k row) (sym (map-three f (r 0) (r 1) (r 2)))
rows-more before e after Default is =
    let f = raised (length before) in
    let r = λ (k : ℕ). rows_from k 0 (before ++ after) in
    let row = row_of (length before) e in
    let k = length (rows_from 1 0 before) in
    let within : k ≤ length (map f (r 1)) = omega (arith, fewer-before 1 before after, length-map (r 1) f) in
    ap₂ (λ (a b : List Row). a ++ b) (other-rank 0 before e after (ap (λ rank. rank_number rank == 0) is))
    (ap₂ (λ (a b : List Row). a ++ b) (same-rank 1 before e after (ap (λ rank. rank_number rank == 1) is)) (other-rank 2 before e after (ap (λ rank. rank_number rank == 2) is)))
    ∙ sym (insert-second (map f (r 0)) (map f (r 1)) (map f (r 2)) k row (length (r 0)) (sym (length-map (r 0) f)) within)
    ∙ ap (λ (rows : List Row). insert rows (length (r 0) + k) row) (sym (map-three f (r 0) (r 1) (r 2)))
rows-more before e after Predefined is =
    let f = raised (length before) in
    let r = λ (k : ℕ). rows_from k 0 (before ++ after) in
    let row = row_of (length before) e in
    let k = length (rows_from 2 0 before) in
    ap₂ (λ (a b : List Row). a ++ b) (other-rank 0 before e after (ap (λ rank. rank_number rank == 0) is))
    (ap₂ (λ (a b : List Row). a ++ b) (other-rank 1 before e after (ap (λ rank. rank_number rank == 1) is)) (same-rank 2 before e after (ap (λ rank. rank_number rank == 2) is)))
    ∙ sym (insert-third (map f (r 0)) (map f (r 1)) (map f (r 2)) k row (length (r 0)) (length (r 1)) (sym (length-map (r 0) f)) (sym (length-map (r 1) f)))
    ∙ ap (λ (rows : List Row). insert rows (length (r 0) + (length (r 1) + k)) row) (sym (map-three f (r 0) (r 1) (r 2)))

number-within : (before : List (List ℕ)) (after : List (List ℕ)) (rank : Rank) → number_of rank before after ≤ length (rows_of (before ++ after))
unfolding rows_of number_of
number-within before after rank =
    let r = λ (k : ℕ). rows_from k 0 (before ++ after) in
    let all = length-append (r 0) (r 1 ++ r 2) in
    let rest = length-append (r 1) (r 2) in
    by_case rank (omega (arith, all, rest)) (fewer-before 0 before after) (fewer-before 1 before after) (fewer-before 2 before after)
  where
    sum : ℕ
    sum = length (rows_from 0 0 (before ++ after)) + (length (rows_from 1 0 (before ++ after)) + length (rows_from 2 0 (before ++ after)))

    by_case : (rank : Rank) → length (rows_from 0 0 (before ++ after) ++ (rows_from 1 0 (before ++ after) ++ rows_from 2 0 (before ++ after))) ≡ sum
        → length (rows_from 0 0 before) ≤ length (rows_from 0 0 (before ++ after)) → length (rows_from 1 0 before) ≤ length (rows_from 1 0 (before ++ after))
        → length (rows_from 2 0 before) ≤ length (rows_from 2 0 (before ++ after))
        → number_of rank before after ≤ length (rows_from 0 0 (before ++ after) ++ (rows_from 1 0 (before ++ after) ++ rows_from 2 0 (before ++ after)))
    by_case Ordinary is a b c = omega (arith, is, a, b, c)
    by_case Default is a b c = omega (arith, is, a, b, c)
    by_case Predefined is a b c = omega (arith, is, a, b, c)

-- with an entry between two parts
row-more : (before : List (List ℕ)) (e : List ℕ) (after : List (List ℕ)) → IsRowMore (before ++ after) (before ++ e ∷ after) (length before) (number_of (rank_of e) before after) e
row-more before e after = record {
  entries = sym (insert-between before after e);
  among = omega (arith, length-append before after);
  within = number-within before after (rank_of e);
  rows = rows-more before e after (rank_of e) refl;
}

-- ---- what it is for the table

raise : ℕ → ℕ → ℕ
raise place p = cond (nat_lt p place) p (p + 1)

-- the entries of the places that are raised are the same
raised-entry : (fewer : List (List ℕ)) (place : ℕ) (e : List ℕ) (p : ℕ) → place ≤ length fewer → entry_at (insert fewer place e) (raise place p) ≡ entry_at fewer p
unfolding raise
raised-entry fewer place e p among = by_case (nat_lt p place) refl
  where
    by_case : (b : Bool) → nat_lt p place ≡ b → entry_at (insert fewer place e) (cond b p (p + 1)) ≡ entry_at fewer p
    by_case true is = get_or-insert_below fewer place e [] p (below is) among
      where
        below : nat_lt p place ≡ true → p < place
        below is = omega (arith, ltb-true p place is)
    by_case false is = get_or-insert_above fewer place e [] p (ltb-false p place is) among

held-inserted : {A : Type 0} (xs : List A) (i : ℕ) (y : A) → i ≤ length xs → slice_get (insert xs i y) i ≡ Some y
held-inserted xs zero y within = refl
held-inserted [] (suc i) y within = absurd (omega arith)
held-inserted (x ∷ xs) (suc i) y within = held-inserted xs i y (omega arith)

there : (fewer more : List (List ℕ)) (place number : ℕ) (e : List ℕ) → IsRowMore fewer more place number e → slice_get (order_of more) number ≡ Some place
there fewer more place number e is =
    let f : Row → ℕ = λ row. row.place in
    slice_get-map f (rows_of more) number
    ∙ ap (λ (rows : List Row). option_map f (slice_get rows number)) is.rows
    ∙ ap (λ (row : Option Row). option_map f row)
    (held-inserted (map (raised place) (rows_of fewer)) number (row_of place e) (omega (arith, is.within, length-map (rows_of fewer) (raised place))))

pub one-more : (fewer more : List (List ℕ)) (place number : ℕ) (e : List ℕ) → IsRowMore fewer more place number e → IsOneMore fewer more place number
unfolding raise
one-more fewer more place number e is = record {
  entry = e;
  entries = is.entries;
  there = there fewer more place number e is;
  within = omega (arith, is.within, length-map (rows_of fewer) (λ (row : Row). row.place), length-map (order_of fewer) (λ p. entry_at fewer p));
  others =
      map-map at_more place_of (rows_of more)
      ∙ ap (λ (rows : List Row). map (λ (row : Row). at_more row.place) rows) is.rows
      ∙ map-insert (λ (row : Row). at_more row.place) (map (raised place) (rows_of fewer)) number (row_of place e)
      ∙ ap₂ (λ (es : List (List ℕ)) (e : List ℕ). insert es number e) same here;
}
  where
    place_of : Row → ℕ
    place_of row = row.place

    at_more : ℕ → List ℕ
    at_more p = entry_at more p

    at_fewer : ℕ → List ℕ
    at_fewer p = entry_at fewer p

    here : entry_at more place ≡ e
    here = ap (λ es. entry_at es place) is.entries ∙ get_or-insert_at fewer place e [] is.among

    each : (row : Row) → entry_at more (raised place row).place ≡ entry_at fewer row.place
    each row = ap (λ es. entry_at es (raise place row.place)) is.entries ∙ raised-entry fewer place e row.place is.among

    same : map (λ (row : Row). entry_at more row.place) (map (raised place) (rows_of fewer)) ≡ ranked fewer
    same =
        map-map (λ (row : Row). entry_at more row.place) (raised place) (rows_of fewer)
        ∙ (λ i. map (λ row. each row i) (rows_of fewer))
        ∙ sym (map-map at_fewer place_of (rows_of fewer))

-- ---- an entry that was added at the end

record IsCounted (n : ℕ) (xs : List (List ℕ)) : Type 0 where
  zero : up_to_rank 0 xs ≡ length (rows_from 0 n xs)
  one : up_to_rank 1 xs ≡ length (rows_from 0 n xs) + length (rows_from 1 n xs)
  two : up_to_rank 2 xs ≡ length (rows_from 0 n xs) + (length (rows_from 1 n xs) + length (rows_from 2 n xs))

counted : (n : ℕ) (xs : List (List ℕ)) → IsCounted n xs
unfolding rows_from up_to_rank
counted n [] = record { zero = refl; one = refl; two = refl }
counted n (x ∷ xs) = by_case (counted (n + 1) xs) (rank_of x) refl
  where
    by_case : IsCounted (n + 1) xs → (rank : Rank) → rank_of x ≡ rank → IsCounted n (x ∷ xs)
    by_case ih Ordinary is = record {
      zero = rw is (omega (arith, ih.zero));
      one = rw is (omega (arith, ih.one));
      two = rw is (omega (arith, ih.two));
    }
    by_case ih Default is = record {
      zero = rw is (omega (arith, ih.zero));
      one = rw is (omega (arith, ih.one));
      two = rw is (omega (arith, ih.two));
    }
    by_case ih Predefined is = record {
      zero = rw is (omega (arith, ih.zero));
      one = rw is (omega (arith, ih.one));
      two = rw is (omega (arith, ih.two));
    }

-- one entry more is counted
up-push : (rank : ℕ) (xs : List (List ℕ)) (e : List ℕ) (b : Bool) → nat_le (rank_number (rank_of e)) rank ≡ b
    → up_to_rank rank (xs ++ e ∷ []) ≡ cond b (up_to_rank rank xs + 1) (up_to_rank rank xs)
unfolding up_to_rank
up-push rank [] e b is = ap (λ b. cond b (0 + 1) 0) is
up-push rank (x ∷ xs) e b is = by_case (up-push rank xs e b is) (nat_le (rank_number (rank_of x)) rank)
  where
    all : ℕ
    all = up_to_rank rank (xs ++ e ∷ [])

    some : ℕ
    some = up_to_rank rank xs

    more : (b : Bool) → all ≡ cond b (some + 1) some → all + 1 ≡ cond b (some + 1 + 1) (some + 1)
    more true ih = ap (λ n. n + 1) ih
    more false ih = ap (λ n. n + 1) ih

    by_case : all ≡ cond b (some + 1) some → (c : Bool) → cond c (all + 1) all ≡ cond b (cond c (some + 1) some + 1) (cond c (some + 1) some)
    by_case ih true = more b ih
    by_case ih false = ih

pub up-to-next : (rank : ℕ) (entries : List (List ℕ)) (i : ℕ) (b : Bool) → i < length entries → nat_le (rank_number (rank_of (get_or entries i []))) rank ≡ b
    → up_to_rank rank (take (i + 1) entries) ≡ cond b (up_to_rank rank (take i entries) + 1) (up_to_rank rank (take i entries))
up-to-next rank entries i b within is = ap (up_to_rank rank) (take_more entries i [] within) ∙ up-push rank (take i entries) (get_or entries i []) b is

number-last : (old : List (List ℕ)) (rank : Rank) → number_of rank old [] ≡ up_to_rank (rank_number rank) old
unfolding number_of
number-last old Ordinary = sym (counted 0 old).zero
number-last old Default = ap (λ all. length (rows_from 0 0 all) + length (rows_from 1 0 old)) (append-nil old) ∙ sym (counted 0 old).one
number-last old Predefined =
    ap (λ all. length (rows_from 0 0 all) + (length (rows_from 1 0 all) + length (rows_from 2 0 old))) (append-nil old) ∙ sym (counted 0 old).two

pub added : (old : List (List ℕ)) (e : List ℕ) → IsRowMore old (old ++ e ∷ []) (length old) (up_to_rank (rank_number (rank_of e)) old) e
added old e =
    let P : ℕ → Type 0 = λ n. IsRowMore (old ++ []) (old ++ e ∷ []) (length old) n e in
    let Q : List (List ℕ) → Type 0 = λ all. IsRowMore all (old ++ e ∷ []) (length old) (up_to_rank (rank_number (rank_of e)) old) e in
    subst Q (append-nil old) (subst P (number-last old (rank_of e)) (row-more old e []))

-- the others keep their rows
pub kept-rows : (old : List (List ℕ)) → map (raised (length old)) (rows_of old) ≡ rows_of old
unfolding rows_of
kept-rows old =
    let kept : (rank : ℕ) → map (raised (length old)) (rows_from rank 0 old) ≡ rows_from rank 0 old = λ rank. raised-before rank 0 (length old) old (omega arith) in
    map-three (raised (length old)) (rows_from 0 0 old) (rows_from 1 0 old) (rows_from 2 0 old)
    ∙ ap₂ (λ (a b : List Row). a ++ b) (kept 0) (ap₂ (λ (a b : List Row). a ++ b) (kept 1) (kept 2))

-- ---- an entry that was deleted

pub deleted : (old : List (List ℕ)) (place number : ℕ) → place < length old → slice_get (order_of old) number ≡ Some place → IsRowMore (remove old place) old place number (entry_at old place)
deleted old place number inside at =
    let before = take place old in
    let after = drop (suc place) old in
    let e = entry_at old place in
    let long : length before ≡ place = length-take-le place old (omega arith) in
    let next : drop place old ≡ e ∷ after = drop_more old place [] inside ∙ ap (λ n. e ∷ drop n old) (add-one place) in
    let whole : before ++ e ∷ after ≡ old = ap (λ (rest : List (List ℕ)). before ++ rest) (sym next) ∙ take-append-drop place old in
    let n = number_of (rank_of e) before after in
    let P : ℕ → Type 0 = λ p. IsRowMore (before ++ after) (before ++ e ∷ after) p n e in
    let Q : List (List ℕ) → Type 0 = λ all. IsRowMore (before ++ after) all place n e in
    let is : IsRowMore (before ++ after) old place n e = subst Q whole (subst P long (row-more before e after)) in
    let R : ℕ → Type 0 = λ k. IsRowMore (before ++ after) old place k e in
    elim (cases_eq n number) [
      | inl same ↦ subst R same is
      | inr differ ↦ absurd (once old n number place (there (before ++ after) old place n e is) at differ)
    ]

lowered-raised : (place : ℕ) (row : Row) → lowered place (raised place row) ≡ row
lowered-raised place row = λ i. record { place = same i; filter = row.filter; ethertype = row.ethertype }
  where
    back : (b : Bool) → nat_lt row.place place ≡ b → cond (nat_lt place (cond b row.place (row.place + 1))) (cond b row.place (row.place + 1) - 1) (cond b row.place (row.place + 1)) ≡ row.place
    back true is = cond-false (nat_lt place row.place) (row.place - 1) row.place (le-ltb place row.place (omega (arith, ltb-true row.place place is)))
    back false is =
        cond-true (nat_lt place (row.place + 1)) (row.place + 1 - 1) (row.place + 1) (lt-ltb place (row.place + 1) (omega (arith, ltb-false row.place place is))) ∙ omega arith

    same : (lowered place (raised place row)).place ≡ row.place
    same = back (nat_lt row.place place) refl

all-lowered : (place : ℕ) (rows : List Row) → map (λ row. lowered place row) (map (raised place) rows) ≡ rows
all-lowered place [] = refl
all-lowered place (r ∷ rows) = ap₂ (λ (x : Row) (xs : List Row). x ∷ xs) (lowered-raised place r) (all-lowered place rows)

-- the rows of the others, without the gap that it left
pub left-rows : (fewer more : List (List ℕ)) (place number : ℕ) (e : List ℕ) → IsRowMore fewer more place number e
    → map (λ row. lowered place row) (remove (rows_of more) number) ≡ rows_of fewer
left-rows fewer more place number e is =
    let within : number ≤ length (map (raised place) (rows_of fewer)) = omega (arith, is.within, length-map (rows_of fewer) (raised place)) in
    ap (λ (rows : List Row). map (λ row. lowered place row) (remove rows number)) is.rows
    ∙ ap (λ (rows : List Row). map (λ row. lowered place row) rows) (remove-insert (map (raised place) (rows_of fewer)) number (row_of place e) within)
    ∙ all-lowered place (rows_of fewer)
