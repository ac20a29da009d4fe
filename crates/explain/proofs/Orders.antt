-- The places of a table's entries by rank.
use Rattle.std.proofs.Common.{◌≡◌, ◌≢◌, ℕ, zero, suc, ◌+◌, ◌<◌, ◌≤◌, ◌==◌, Bool, true, false, ◌&&◌, ◌||◌, List, [], ◌∷◌, ◌++◌, Option, Some, None, IsSome, length, drop, arith, refl, ap, sym, ◌∙◌, nat_lt, subst, if◌then◌else◌}
use Rattle.std.specs.Prelude.{All, find, option_map}
use Rattle.std.specs.List.{list_any, position, position_or_len}
use Rattle.std.proofs.lemmas.Bool.{eq-eqb, le-ltb, lt-ltb, ltb-false, ltb-true, ne_eqb, true≢false}
use Rattle.std.proofs.lemmas.List.Elements.{All-append, All-cons, All-nil}
use Rattle.std.proofs.lemmas.List.Folds.{find-append, list_any-append}
use Rattle.std.specs.Option.{option_or}
use Rattle.std.proofs.lemmas.List.{drop_all, drop_more}
use Rattle.vlan_rule.specs.declared.rank.Rank.{Rank}
use Rattle.vlan_rule.specs.declared.rank.Rank.TheVariants.{Ordinary, Default, Predefined}
use Rattle.vlan_rule.specs.Meaning.{rank_number, rank_of}
use Rattle.vlan_rule.specs.Choice.{choice, entry_at, first_of, rank_at}
use Rattle.explain.specs.Order.{number_of, places_from, places_of, tried_order, IsTriedInOrder}

-- an entry of the rank, and the others behind it
pub places_more : (rank : Rank) (entries : List (List ℕ)) (i : ℕ) → i < length entries → rank_at entries i ≡ rank_number rank
    → places_from rank i (drop i entries) ≡ i ∷ places_from rank (i + 1) (drop (i + 1) entries)
places_more rank entries i within has =
    let same = eq-eqb (rank_at entries i) (rank_number rank) has in
    rw (drop_more entries i [] within, same) refl

-- an entry of another rank
pub places_past : (rank : Rank) (entries : List (List ℕ)) (i : ℕ) → i < length entries → rank_at entries i ≢ rank_number rank
    → places_from rank i (drop i entries) ≡ places_from rank (i + 1) (drop (i + 1) entries)
places_past rank entries i within other =
    let differs = ne_eqb (rank_at entries i) (rank_number rank) other in
    rw (drop_more entries i [] within, differs) refl

pub places_end : (rank : Rank) (entries : List (List ℕ)) (i : ℕ) → length entries ≤ i → places_from rank i (drop i entries) ≡ []
places_end rank entries i past = rw (drop_all i entries past) refl

-- each entry has one rank
lengths_by : (rank : Rank) (i : ℕ) (e : List ℕ) (rest : List (List ℕ)) → rank_of e ≡ rank
    → length (places_from Ordinary (i + 1) rest) + length (places_from Default (i + 1) rest) + length (places_from Predefined (i + 1) rest) ≡ length rest
    → length (places_from Ordinary i (e ∷ rest)) + length (places_from Default i (e ∷ rest)) + length (places_from Predefined i (e ∷ rest)) ≡ length (e ∷ rest)
lengths_by Ordinary i e rest is others = rw is (omega (arith, others))
lengths_by Default i e rest is others = rw is (omega (arith, others))
lengths_by Predefined i e rest is others = rw is (omega (arith, others))

lengths : (i : ℕ) (entries : List (List ℕ))
    → length (places_from Ordinary i entries) + length (places_from Default i entries) + length (places_from Predefined i entries) ≡ length entries
lengths i [] = refl
lengths i (e ∷ rest) = lengths_by (rank_of e) i e rest refl (lengths (i + 1) rest)

pub length-places : (entries : List (List ℕ))
    → length (places_of Ordinary entries) + length (places_of Default entries) + length (places_of Predefined entries) ≡ length entries
length-places entries = lengths 0 entries

-- each place is that of an entry
places_within : (rank : Rank) (i n : ℕ) (entries : List (List ℕ)) → i + length entries ≤ n → All (λ place. place < n) (places_from rank i entries)
places_within rank i n [] within = All-nil (λ place. place < n)
places_within rank i n (e ∷ rest) within =
    here (rank_number (rank_of e) == rank_number rank) (places_within rank (i + 1) n rest (omega arith)) (omega arith)
  where
    here : (has : Bool) → All (λ place. place < n) (places_from rank (i + 1) rest) → i < n
        → All (λ place. place < n) (if has then i ∷ places_from rank (i + 1) rest else places_from rank (i + 1) rest)
    here true others first = All-cons (λ place. place < n) i (places_from rank (i + 1) rest) first others
    here false others first = others

pub tried_within : (entries : List (List ℕ)) → All (λ place. place < length entries) (tried_order entries)
unfolding tried_order
tried_within entries =
    let within : (rank : Rank) → All (λ place. place < length entries) (places_of rank entries) = λ rank. places_within rank 0 (length entries) entries (omega arith) in
    All-append (λ place. place < length entries) (places_of Ordinary entries) (places_of Default entries ++ places_of Predefined entries) (within Ordinary)
    (All-append (λ place. place < length entries) (places_of Default entries) (places_of Predefined entries) (within Default) (within Predefined))

-- ---- the first that passes a test

position-here : {X : Type 0} (p : X → Bool) (x : X) (rest : List X) → p x ≡ true → position p (x ∷ rest) ≡ Some 0
position-here p x rest is = let within = lt-ltb 0 (suc (length rest)) (omega arith) in rw (is, within) refl

-- one place further
further : (at n : ℕ) → (if nat_lt (1 + at) (suc n) then Some (1 + at) else None) ≡ option_map (λ i. 1 + i) (if nat_lt at n then Some at else None)
further at n = by_case (nat_lt at n) refl
  where
    by_case : (b : Bool) → nat_lt at n ≡ b → (if nat_lt (1 + at) (suc n) then Some (1 + at) else None) ≡ option_map (λ i. 1 + i) (if b then Some at else None)
    by_case true is =
        let below : at < n = ltb-true at n is in
        let within = lt-ltb (1 + at) (suc n) (omega arith) in rw within refl
    by_case false is =
        let above : n ≤ at = ltb-false at n is in
        let past = le-ltb (1 + at) (suc n) (omega arith) in rw past refl

position-there : {X : Type 0} (p : X → Bool) (x : X) (rest : List X) → p x ≡ false → position p (x ∷ rest) ≡ option_map (λ i. 1 + i) (position p rest)
position-there p x rest is = rw is (further (position_or_len p rest) (length rest))

-- what stands at a place is tested as the entry there
abbrev Tests : (ℕ → Bool) → (List ℕ → Bool) → ℕ → List (List ℕ) → Type 0
Tests at test k entries = (j : ℕ) → at (k + j) ≡ test (entry_at entries j)

tests_rest : (at : ℕ → Bool) (test : List ℕ → Bool) (k : ℕ) (e : List ℕ) (rest : List (List ℕ)) → Tests at test k (e ∷ rest) → Tests at test (k + 1) rest
tests_rest at test k e rest same = λ j. let place : k + 1 + j ≡ k + suc j = omega arith in rw place (same (suc j))

shifted : (k : ℕ) (o : Option ℕ) → option_map (λ i. k + 1 + i) o ≡ option_map (λ i. k + i) (option_map (λ i. 1 + i) o)
shifted k None = refl
shifted k (Some i) = ap (λ (n : ℕ). Some n) (omega arith)

-- one entry more: it has the rank, or hasn't, and passes, or doesn't
one_more : (at : ℕ → Bool) (p : List ℕ → Bool) (k : ℕ) (e : List ℕ) (rest : List (List ℕ)) (places : List ℕ) (has passes : Bool)
    → at k ≡ passes → p e ≡ (has && passes) → find at places ≡ option_map (λ i. k + 1 + i) (position p rest)
    → find at (if has then k ∷ places else places) ≡ option_map (λ i. k + i) (position p (e ∷ rest))
one_more at p k e rest places false passes here is others =
    others ∙ shifted k (position p rest) ∙ ap (option_map (λ i. k + i)) (sym (position-there p e rest is))
one_more at p k e rest places true true here is others =
    ap (λ (b : Bool). if b then Some k else find at places) here
    ∙ ap (λ (n : ℕ). Some n) (omega arith)
    ∙ ap (option_map (λ i. k + i)) (sym (position-here p e rest is))
one_more at p k e rest places true false here is others =
    ap (λ (b : Bool). if b then Some k else find at places) here
    ∙ others ∙ shifted k (position p rest) ∙ ap (option_map (λ i. k + i)) (sym (position-there p e rest is))

-- the first place of a rank that passes is that of the first entry of that rank that does
first_of_rank : (rank : Rank) (at : ℕ → Bool) (test : List ℕ → Bool) (k : ℕ) (entries : List (List ℕ)) → Tests at test k entries
    → find at (places_from rank k entries) ≡ option_map (λ i. k + i) (first_of rank test entries)
first_of_rank rank at test k [] same = refl
first_of_rank rank at test k (e ∷ rest) same =
    let place : k ≡ k + 0 = omega arith in
    one_more at (λ entry. rank_number (rank_of entry) == rank_number rank && test entry) k e rest (places_from rank (k + 1) rest)
    (rank_number (rank_of e) == rank_number rank) (test e) (ap at place ∙ same 0) refl
    (first_of_rank rank at test (k + 1) rest (tests_rest at test k e rest same))

from_zero : (o : Option ℕ) → option_map (λ i. 0 + i) o ≡ o
from_zero None = refl
from_zero (Some i) = ap (λ (n : ℕ). Some n) (omega arith)

-- the entry that is used is the first in the order
pub chosen_first : (test : List ℕ → Bool) (entries : List (List ℕ)) → choice test entries ≡ find (λ i. test (entry_at entries i)) (tried_order entries)
unfolding choice tried_order
chosen_first test entries =
    let at : ℕ → Bool = λ i. test (entry_at entries i) in
    let same : Tests at test 0 entries = λ j. let place : 0 + j ≡ j = omega arith in ap at place in
    let of : (rank : Rank) → find at (places_of rank entries) ≡ first_of rank test entries =
    λ rank. first_of_rank rank at test 0 entries same ∙ from_zero (first_of rank test entries) in
    sym (
    find-append at (places_of Ordinary entries) (places_of Default entries ++ places_of Predefined entries)
    ∙ ap (λ (o : Option ℕ). option_or (find at (places_of Ordinary entries)) o) (find-append at (places_of Default entries) (places_of Predefined entries))
    ∙ ap (λ (o : Option ℕ). option_or o (option_or (find at (places_of Default entries)) (find at (places_of Predefined entries)))) (of Ordinary)
    ∙ ap (λ (o : Option ℕ). option_or (first_of Ordinary test entries) (option_or o (find at (places_of Predefined entries)))) (of Default)
    ∙ ap (λ (o : Option ℕ). option_or (first_of Ordinary test entries) (option_or (first_of Default test entries) o)) (of Predefined)
    )

pub first_tried : IsTriedInOrder
first_tried = record { first = chosen_first }

-- ---- the number of an entry

or-true : (b : Bool) → (b || true) ≡ true
or-true true = refl
or-true false = refl

-- a test that something behind passes, is passed with one more in front
behind : (p : ℕ → Bool) (i : ℕ) (rest : List ℕ) (has : Bool) → list_any p rest ≡ true → list_any p (if has then i ∷ rest else rest) ≡ true
behind p i rest true there = rw there (or-true (p i))
behind p i rest false there = there

-- the place of an entry is among those of its rank
place_there : (rank : Rank) (i j : ℕ) (entries : List (List ℕ)) → j < length entries → rank_of (entry_at entries j) ≡ rank
    → list_any (λ tried. tried == i + j) (places_from rank i entries) ≡ true
place_there rank i j [] within is = absurd (omega arith)
place_there rank i zero (e ∷ rest) within is =
    let same = eq-eqb (rank_number (rank_of e)) (rank_number rank) (ap rank_number is) in
    let first = eq-eqb i (i + 0) (omega arith) in
    rw (same, first) refl
place_there rank i (suc k) (e ∷ rest) within is =
    let place : i + 1 + k ≡ i + suc k = omega arith in
    let others = place_there rank (i + 1) k rest (omega arith) is in
    behind (λ tried. tried == i + suc k) i (places_from rank (i + 1) rest) (rank_number (rank_of e) == rank_number rank)
    (subst (λ at. list_any (λ tried. tried == at) (places_from rank (i + 1) rest) ≡ true) place others)

-- one of three
any_of : (rank : Rank) (of : Rank → Bool) → of rank ≡ true → (of Ordinary || (of Default || of Predefined)) ≡ true
any_of Ordinary of is = rw is refl
any_of Default of is = rw is (or-true (of Ordinary))
any_of Predefined of is = rw is (ap (λ (b : Bool). of Ordinary || b) (or-true (of Default)) ∙ or-true (of Ordinary))

-- and so among all
tried_there : (entries : List (List ℕ)) (place : ℕ) → place < length entries → list_any (λ tried. tried == place) (tried_order entries) ≡ true
unfolding tried_order
tried_there entries place within =
    let test : ℕ → Bool = λ tried. tried == place in
    let rank = rank_of (entry_at entries place) in
    let at : 0 + place ≡ place = omega arith in
    let there = subst (λ at. list_any (λ tried. tried == at) (places_of rank entries) ≡ true) at (place_there rank 0 place entries within refl) in
    list_any-append test (places_of Ordinary entries) (places_of Default entries ++ places_of Predefined entries)
    ∙ ap (λ (b : Bool). list_any test (places_of Ordinary entries) || b) (list_any-append test (places_of Default entries) (places_of Predefined entries))
    ∙ any_of rank (λ rank. list_any test (places_of rank entries)) there

-- what passes somewhere has a first place
first_more : {X : Type 0} (p : X → Bool) (x : X) (rest : List X) (has : Bool) → p x ≡ has → (list_any p rest ≡ true → position_or_len p rest < length rest)
    → list_any p (x ∷ rest) ≡ true → position_or_len p (x ∷ rest) < length (x ∷ rest)
first_more p x rest true has others is = rw has (omega arith)
first_more p x rest false has others is =
    let there : list_any p rest ≡ true = ap (λ (b : Bool). b || list_any p rest) (sym has) ∙ is in
    let within = others there in rw has (omega arith)

first_within : {X : Type 0} (p : X → Bool) (xs : List X) → list_any p xs ≡ true → position_or_len p xs < length xs
first_within p [] is = absurd (true≢false (sym is))
first_within p (x ∷ rest) is = first_more p x rest (p x) refl (first_within p rest) is

-- each entry has a number
pub number_found : (entries : List (List ℕ)) (place : ℕ) → place < length entries → IsSome (number_of entries place)
number_found entries place within =
    let test : ℕ → Bool = λ tried. tried == place in
    let there = lt-ltb (position_or_len test (tried_order entries)) (length (tried_order entries)) (first_within test (tried_order entries) (tried_there entries place within)) in
    rw there refl
