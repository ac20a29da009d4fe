-- What stays where one treatment of a table is set.
use Rattle.std.proofs.Common.{◌≡◌, ◌≢◌, ◌==◌, ℕ, ◌+◌, ◌-◌, ◌*◌, ◌/◌, ◌%◌, ◌^◌, ◌<◌, ◌≤◌, true, false, ◌||◌, ◌&&◌, leb, nat_lt, map, List, [], Some, length, get_or, set, take, drop, slice_index, refl, ap, sym, ◌∙◌, subst, arith, ◌⊎◌, inl, inr}
use Rattle.std.specs.Prelude.{slice_get, slice_set}
use Rattle.std.specs.Option.{option_map}
use Rattle.std.proofs.lemmas.Bool.{le-ltb}
use Rattle.std.proofs.lemmas.Bool.Decides.{eqb_tells, leb_tells}
use Rattle.std.proofs.Math.Bool.{and-false}
use Rattle.std.proofs.lemmas.List.{ext_get_or, get_or-drop, get_or-set_other, get_or-take, length-set, length-take-le}
use Rattle.std.proofs.lemmas.Grind.{get_or-set_at}
use Rattle.std.proofs.lemmas.Option.{get_or_from_slice_get, same_Some, slice_get-map, slice_get_within}
use Rattle.byteorder.specs.Endian.{big_number}
use Rattle.vlan_rule.specs.Choice.{entry_at, is_before, rank_at}
use Rattle.tag_view.proofs.Bytes.{bytes_within}
use Rattle.rule_index.specs.declared.row.Row.{Row}
use Rattle.rule_index.specs.Order.{order_of, rows_of, IsAlike}
use Rattle.rule_index.specs.Followed.{IsSet, IsTaken, IsTreated}
use Rattle.rule_index.proofs.Alike.{rows_of-alike}
use Rattle.rule_index.proofs.Sorted.{is_order}

-- ---- bytes of one number are the same

first-byte : (xs : List ℕ) → big_number 1 xs ≡ get_or xs 0 0
first-byte xs = omega arith

byte-within : (i : ℕ) (xs : List ℕ) → i < 16 → ((i : ℕ) → slice_index xs i < 256)
    → big_number 16 xs / 2 ^ (8 * (15 - i)) % 2 ^ (8 * 1) ≡ get_or xs i 0
byte-within i xs h fits =
    bytes_within i 1 (15 - i) 16 xs (omega (arith, h)) fits ∙ first-byte (drop i xs) ∙ get_or-drop i xs 0 0 ∙ ap (λ k. get_or xs k 0) (omega arith)

pub same_bytes : (xs ys : List ℕ) → length xs ≡ 16 → length ys ≡ 16 → ((i : ℕ) → slice_index xs i < 256) → ((i : ℕ) → slice_index ys i < 256)
    → big_number 16 xs ≡ big_number 16 ys → xs ≡ ys
same_bytes xs ys long_x long_y fits_x fits_y same = ext_get_or 0 xs ys (long_x ∙ sym long_y) (λ i h. byte i (omega (arith, h, long_x)))
  where
    byte : (i : ℕ) → i < 16 → get_or xs i 0 ≡ get_or ys i 0
    byte i h = sym (byte-within i xs h fits_x) ∙ ap (λ n. n / 2 ^ (8 * (15 - i)) % 2 ^ (8 * 1)) same ∙ byte-within i ys h fits_y

-- ---- the same entries before a place

pub same-take : (xs ys : List (List ℕ)) (n : ℕ) → n ≤ length xs → n ≤ length ys → ((k : ℕ) → k < n → entry_at xs k ≡ entry_at ys k) → take n xs ≡ take n ys
same-take xs ys n hx hy same =
    let long_x = length-take-le n xs hx in
    let long_y = length-take-le n ys hy in
    ext_get_or [] (take n xs) (take n ys) (long_x ∙ sym long_y)
    (λ i h. get_or-take n xs i [] (omega (arith, h, long_x)) ∙ same i (omega (arith, h, long_x)) ∙ sym (get_or-take n ys i [] (omega (arith, h, long_x))))

-- all entries but one are the same
pub set-alone : (xs ys : List (List ℕ)) (place : ℕ) (e : List ℕ) → length xs ≡ length ys → place < length xs → entry_at ys place ≡ e
    → ((k : ℕ) → k < place → entry_at xs k ≡ entry_at ys k) → ((k : ℕ) → place + 1 ≤ k → k < length xs → entry_at xs k ≡ entry_at ys k)
    → ys ≡ slice_set xs place e
set-alone xs ys place e long within is before behind =
    ext_get_or [] ys (set xs place e) (sym long ∙ sym (length-set xs place e)) (λ k h. by_case k (omega (arith, h, long)) (eqb_tells k place))
  where
    by_case : (k : ℕ) → k < length xs → ((k == place) ≡ true × (k ≡ place)) ⊎ ((k == place) ≡ false × (k ≢ place)) → get_or ys k [] ≡ get_or (set xs place e) k []
    by_case k h (inl a) = ap (λ i. get_or ys i []) a.1 ∙ is ∙ sym (get_or-set_at xs place k e [] a.1 within)
    by_case k h (inr a) = sym (elsewhere k h a.1) ∙ sym (get_or-set_other xs place k e [] a.1)
      where
        elsewhere : (k : ℕ) → k < length xs → k ≢ place → get_or xs k [] ≡ get_or ys k []
        elsewhere k h a = side k h a (leb_tells k place)
          where
            side : (k : ℕ) → k < length xs → k ≢ place → ((leb k place ≡ true) × (k ≤ place)) ⊎ ((leb k place ≡ false) × (place < k)) → get_or xs k [] ≡ get_or ys k []
            side k h a (inl b) = before k (omega (arith, a, b.1))
            side k h a (inr b) = behind k (omega (arith, b.1)) h

-- ---- one treatment

-- no entry stands before itself
itself : (r p : ℕ) → (nat_lt r r || (r == r && nat_lt p p)) ≡ false
itself r p = rw (le-ltb r r (omega arith), le-ltb p p (omega arith)) (and-false (r == r))

-- so it has no two numbers
not-before : (entries : List (List ℕ)) (j k place : ℕ) → slice_get (order_of entries) j ≡ Some place → slice_get (order_of entries) k ≡ Some place → j < k → ⊥
not-before entries j k place at_j at_k less =
    let order = order_of entries in
    let e_j : get_or order j 0 ≡ place = get_or_from_slice_get order j place 0 at_j in
    let e_k : get_or order k 0 ≡ place = get_or_from_slice_get order k place 0 at_k in
    let before : is_before entries (get_or order j 0) (get_or order k 0) ≡ true = (is_order entries).ascending j k less (slice_get_within order k place at_k) in
    let same : is_before entries place place ≡ true =
    ap (λ n. is_before entries n place) (sym e_j) ∙ ap (λ n. is_before entries (get_or order j 0) n) (sym e_k) ∙ before in
    let none : false ≡ true = sym (itself (rank_at entries place) place) ∙ same in cc

pub once : (entries : List (List ℕ)) (j k place : ℕ) → slice_get (order_of entries) j ≡ Some place → slice_get (order_of entries) k ≡ Some place → j ≢ k → ⊥
once entries j k place at_j at_k differ = side (leb_tells j k)
  where
    side : ((leb j k ≡ true) × (j ≤ k)) ⊎ ((leb j k ≡ false) × (k < j)) → ⊥
    side (inl b) = not-before entries j k place at_j at_k (omega (arith, differ, b.1))
    side (inr b) = not-before entries k j place at_k at_j b.1

like-itself : (e : List ℕ) → IsAlike e e
like-itself e = record { filter = refl; ethertype = refl; rank = refl }

pub set-rows : (old : List (List ℕ)) (place : ℕ) (e : List ℕ) → place < length old → IsAlike (entry_at old place) e → rows_of (slice_set old place e) ≡ rows_of old
set-rows old place e within alike = sym (rows_of-alike old (set old place e) (sym (length-set old place e)) (λ k h. by_case k (eqb_tells k place)))
  where
    by_case : (k : ℕ) → ((k == place) ≡ true × (k ≡ place)) ⊎ ((k == place) ≡ false × (k ≢ place)) → IsAlike (get_or old k []) (get_or (set old place e) k [])
    by_case k (inl a) =
        let P : List ℕ → Type 0 = λ x. IsAlike (get_or old k []) x in
        let Q : ℕ → Type 0 = λ n. IsAlike (get_or old n []) e in
        subst P (sym (get_or-set_at old place k e [] a.1 within)) (subst Q (sym a.1) alike)
    by_case k (inr a) =
        let P : List ℕ → Type 0 = λ x. IsAlike (get_or old k []) x in
        subst P (sym (get_or-set_other old place k e [] a.1)) (like-itself (get_or old k []))

pub treated : (old new : List (List ℕ)) (place number : ℕ) (e : List ℕ) → place < length old → IsAlike (entry_at old place) e → new ≡ slice_set old place e
    → slice_get (order_of old) number ≡ Some place → IsTreated old new number
treated old new place number e within alike is at =
    let places : List Row → List ℕ = λ rows. map (λ row. row.place) rows in
    let order : order_of new ≡ order_of old = ap order_of is ∙ ap places (set-rows old place e within alike) in
    record {
      order = order;
      there = (place, ap (λ o. slice_get o number) order ∙ at);
      others = λ k q differ at_k.
          ap (λ entries. entry_at entries q) is
          ∙ get_or-set_other old place q e [] (λ same. once old k number q (ap (λ o. slice_get o k) (sym order) ∙ at_k) (at ∙ ap (λ n. Some n) (sym same)) differ);
    }

-- the number of an entry in the order, as its row has the place
pub numbered-at : (entries : List (List ℕ)) (rows : List Row) (place number : ℕ) → rows ≡ rows_of entries
    → option_map (λ (row : Row). row.place) (slice_get rows number) ≡ Some place → slice_get (order_of entries) number ≡ Some place
numbered-at entries rows place number is held =
    slice_get-map (λ (row : Row). row.place) (rows_of entries) number
    ∙ ap (λ (rs : List Row). option_map (λ (row : Row). row.place) (slice_get rs number)) (sym is) ∙ held

-- ---- what a step towards a table takes

-- the same entries up to the end of both
pub same-table : (entries table : List (List ℕ)) (n : ℕ) → n ≡ length entries → n ≡ length table
    → ((k : ℕ) → 0 ≤ k → k < n → entry_at entries k ≡ entry_at table k) → entries ≡ table
same-table entries table n long ends same = ext_get_or [] entries table (sym long ∙ ends) (λ k h. same k (omega arith) (omega (arith, h, long)))

taken-at : (entries table : List (List ℕ)) (place number : ℕ) → slice_get (order_of entries) number ≡ Some place
    → place < length table → entry_at entries place ≡ entry_at table place → IsTaken entries table number
taken-at entries table place number at within same other there =
    let P : ℕ → Type 0 = λ q. (q < length table) × (entry_at entries q ≡ entry_at table q) in
    subst P (same_Some _ _ (sym at ∙ there)) (within, same)

pub set-taken : (old new table : List (List ℕ)) (number : ℕ) → IsSet old new table number → IsTaken new table number
set-taken old new table number is =
    taken-at new table is.place number is.there is.within.1
    (ap (λ es. entry_at es is.place) is.entries ∙ get_or-set_at old is.place is.place (entry_at table is.place) [] refl is.within.0)

pub added-taken : (old new table : List (List ℕ)) (number : ℕ) → length old < length table → new ≡ take (length old + 1) table
    → slice_get (order_of new) number ≡ Some (length old) → IsTaken new table number
added-taken old new table number more is at =
    taken-at new table (length old) number at more
    (ap (λ es. entry_at es (length old)) is ∙ get_or-take (length old + 1) table (length old) [] (omega arith))
