-- The row of the entry that is chosen.
use Rattle.std.proofs.Common.{◌≡◌, ◌≢◌, ℕ, suc, ◌+◌, ◌<◌, ◌≤◌, ◌==◌, Bool, true, false, List, [], ◌∷◌, Option, Some, None, arith, refl, ap, sym, length, nat_lt, if◌then◌else◌, ◌∙◌}
use Rattle.std.specs.Prelude.{find, option_map}
use Rattle.std.specs.List.{position, position_or_len}
use Rattle.std.proofs.lemmas.Bool.{eq-eqb, le-ltb, lt-ltb, ltb-false, ltb-true, ne_eqb, true≢false}
use Rattle.vlan_rule.specs.Choice.{entry_at}
use Rattle.pmapper.specs.Mapper.{Unmarked}
use Rattle.frame_meaning.specs.Meaning.{Table}
use Rattle.frame_rows.specs.declared.field.Values.{Values}
use Rattle.frame_rows.specs.declared.row.Row.{Row}
use Rattle.frame_rows.specs.Field.{fields}
use Rattle.frame_rows.specs.Row.{passes}
use Rattle.frame_rows.specs.Rows.{entry_row, entry_rows}

-- ---- the first that passes a test

position-here : {X : Type 0} (p : X → Bool) (x : X) (rest : List X) → p x ≡ true → position p (x ∷ rest) ≡ Some 0
position-here p x rest is = let within = lt-ltb 0 (suc (length rest)) (omega arith) in rw (is, within) refl

-- one place further
further : (at n : ℕ) → (if nat_lt (1 + at) (suc n) then Some (1 + at) else None) ≡ option_map (λ i. 1 + i) (if nat_lt at n then Some at else None)
further at n = by_case (nat_lt at n) refl
  where
    by_case : (b : Bool) → nat_lt at n ≡ b → (if nat_lt (1 + at) (suc n) then Some (1 + at) else None) ≡ option_map (λ i. 1 + i) (if b then Some at else None)
    by_case true is =
        let below : at < n = ltb-true at n is in
        let within = lt-ltb (1 + at) (suc n) (omega arith) in rw within refl
    by_case false is =
        let above : n ≤ at = ltb-false at n is in
        let past = le-ltb (1 + at) (suc n) (omega arith) in rw past refl

position-there : {X : Type 0} (p : X → Bool) (x : X) (rest : List X) → p x ≡ false → position p (x ∷ rest) ≡ option_map (λ i. 1 + i) (position p rest)
position-there p x rest is = rw is (further (position_or_len p rest) (length rest))

some_same : {X : Type 0} (x y : X) → Some x ≡ Some y → x ≡ y
some_same x y e = cc

none_some : {X : Type 0} (x : X) → None ≡ Some x → ⊥
none_some x e = cc

-- what is found passes
pub find_passes : {X : Type 0} (p : X → Bool) (xs : List X) (found : X) → find p xs ≡ Some found → p found ≡ true
find_passes {X} p [] found is = absurd (none_some found is)
find_passes {X} p (x ∷ xs) found is = by_first (p x) refl is (find_passes p xs found)
  where
    by_first : (b : Bool) → p x ≡ b → find p (x ∷ xs) ≡ Some found → (find p xs ≡ Some found → p found ≡ true) → p found ≡ true
    by_first true has is others = ap p (sym (some_same x found (rw has at is))) ∙ has
    by_first false has is others = others (rw has at is)

-- ---- rows

-- the rows of entries pass for values where a test of the entries does
abbrev pub PassLike : Table → Option Unmarked → Values → (List ℕ → Bool) → Type 0
PassLike table unmarked values test =
    (number : ℕ) (entry : List ℕ) → passes fields (entry_row table unmarked number entry) values ≡ test entry

-- no row passes where no entry does
pub none_row : (table : Table) (unmarked : Option Unmarked) (values : Values) (test : List ℕ → Bool) (number : ℕ) (places : List ℕ)
    → PassLike table unmarked values test → find (λ place. test (entry_at table.entries place)) places ≡ None
    → find (λ row. passes fields row values) (entry_rows table unmarked number places) ≡ None
none_row table unmarked values test number [] like is = refl
none_row table unmarked values test number (place ∷ rest) like is =
    by_first (test (entry_at table.entries place)) refl is (none_row table unmarked values test (number + 1) rest like)
  where
    by_first : (b : Bool) → test (entry_at table.entries place) ≡ b → find (λ place. test (entry_at table.entries place)) (place ∷ rest) ≡ None
        → (find (λ place. test (entry_at table.entries place)) rest ≡ None
        → find (λ row. passes fields row values) (entry_rows table unmarked (number + 1) rest) ≡ None)
        → find (λ row. passes fields row values) (entry_rows table unmarked number (place ∷ rest)) ≡ None
    by_first true has is others = absurd (none_some place (sym (rw has at is)))
    by_first false has is others =
        let fails = like number (entry_at table.entries place) ∙ has in
        rw fails (others (rw has at is))

-- the first row that passes is that of the first entry that does, and its number is that entry's
pub record IsRowOf (table : Table) (unmarked : Option Unmarked) (values : Values) (number : ℕ) (places : List ℕ) (place : ℕ) : Type 0 where
  pub at : ℕ
  pub is_at : position (λ tried. tried == place) places ≡ Some at
  pub is_row : find (λ row. passes fields row values) (entry_rows table unmarked number places)
      ≡ Some (entry_row table unmarked (number + at) (entry_at table.entries place))

pub some_row : (table : Table) (unmarked : Option Unmarked) (values : Values) (test : List ℕ → Bool) (number : ℕ) (places : List ℕ) (place : ℕ)
    → PassLike table unmarked values test → find (λ place. test (entry_at table.entries place)) places ≡ Some place
    → IsRowOf table unmarked values number places place
some_row table unmarked values test number [] place like is = absurd (none_some place is)
some_row table unmarked values test number (first ∷ rest) place like is =
    by_first (test (entry_at table.entries first)) refl is (some_row table unmarked values test (number + 1) rest place like)
  where
    by_first : (b : Bool) → test (entry_at table.entries first) ≡ b → find (λ place. test (entry_at table.entries place)) (first ∷ rest) ≡ Some place
        → (find (λ place. test (entry_at table.entries place)) rest ≡ Some place → IsRowOf table unmarked values (number + 1) rest place)
        → IsRowOf table unmarked values number (first ∷ rest) place
    by_first true has is others =
        let same : first ≡ place = some_same first place (rw has at is) in
        let passes_too = like number (entry_at table.entries first) ∙ has in
        record {
          at = 0;
          is_at = position-here (λ tried. tried == place) first rest (eq-eqb first place same);
          is_row =
              rw passes_too (ap (λ (row : Row). Some row) (ap (entry_row table unmarked number) (ap (entry_at table.entries) same)
              ∙ ap (λ (n : ℕ). entry_row table unmarked n (entry_at table.entries place)) (plus_zero number)));
        }
      where
        plus_zero : (n : ℕ) → n ≡ n + 0
        plus_zero n = omega arith
    by_first false has is others =
        let later = rw has at is in
        let fails = like number (entry_at table.entries first) ∙ has in
        let passes_there = find_passes (λ place. test (entry_at table.entries place)) rest place later in
        let apart : first ≢ place = λ same. true≢false (sym passes_there ∙ ap (λ (i : ℕ). test (entry_at table.entries i)) (sym same) ∙ has) in
        let rest_is = others later in
        record {
          at = 1 + rest_is.at;
          is_at = position-there (λ tried. tried == place) first rest (ne_eqb first place apart) ∙ ap (option_map (λ i. 1 + i)) rest_is.is_at;
          is_row = rw fails (rest_is.is_row ∙ ap (λ (n : ℕ). Some (entry_row table unmarked n (entry_at table.entries place))) (omega arith));
        }
