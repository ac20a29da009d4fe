-- Rows that are offered, and those of each type that begins a tag.
use Rattle.std.proofs.Common.{◌≡◌, ℕ, ◌==◌, Bool, true, false, ◌||◌, List, [], ◌∷◌, ◌++◌, Option, Some, None, refl, ap, ◌∙◌}
use Rattle.std.specs.Prelude.{All, find}
use Rattle.std.specs.List.{list_any}
use Rattle.std.proofs.lemmas.Bool.{eq-eqb, eqb-true, or_left, or_right}
use Rattle.std.proofs.lemmas.List.Elements.{All-append, All-cons, All-nil}
use Rattle.std.proofs.lemmas.List.Folds.{list_any-append}
use Rattle.tag_view.specs.Tag.{customer_tpid, is_tag_type, service_tpid}
use Rattle.frame_rows.specs.declared.row.Row.{Row}
use Rattle.expectation_rows.specs.Rows.{of_each, offered}

-- ---- what holds of each

pub All-offered : (P : Row → Type 0) (is_offered : Bool) (row : Row) → (is_offered ≡ true → P row) → All P (offered is_offered row)
All-offered P true row h = All-cons P row [] (h refl) (All-nil P)
All-offered P false row h = All-nil P

pub input_begins : (input : ℕ) → is_tag_type input input ≡ true
input_begins input = rw (eq-eqb input input refl) (or_right _ _ refl)

pub All-of_each : (P : Row → Type 0) (input : ℕ) (rows : ℕ → List Row) → ((tpid : ℕ) → is_tag_type input tpid ≡ true → All P (rows tpid))
    → All P (of_each input rows)
All-of_each P input rows h =
    All-append P (rows customer_tpid) (rows service_tpid ++ rows input) (h customer_tpid refl)
    (All-append P (rows service_tpid) (rows input) (h service_tpid refl) (h input (input_begins input)))

-- ---- a test that one passes

pub any_offered : (test : Row → Bool) (is_offered : Bool) (row : Row) → is_offered ≡ true → test row ≡ true → list_any test (offered is_offered row) ≡ true
any_offered test true row h passes = rw passes refl
any_offered test false row h passes = absurd (cc)

pub any_first : (test : Row → Bool) (rows more : List Row) → list_any test rows ≡ true → list_any test (rows ++ more) ≡ true
any_first test rows more h = list_any-append test rows more ∙ or_left _ _ h

pub any_behind : (test : Row → Bool) (rows more : List Row) → list_any test more ≡ true → list_any test (rows ++ more) ≡ true
any_behind test rows more h = list_any-append test rows more ∙ or_right _ _ h

pub any_of_each : (test : Row → Bool) (input tpid : ℕ) (rows : ℕ → List Row) → is_tag_type input tpid ≡ true → list_any test (rows tpid) ≡ true
    → list_any test (of_each input rows) ≡ true
any_of_each test input tpid rows begins passes =
    by_type (tpid == customer_tpid) (tpid == service_tpid) (tpid == input) refl refl refl
  where
    by_type : (one two three : Bool) → (tpid == customer_tpid) ≡ one → (tpid == service_tpid) ≡ two → (tpid == input) ≡ three
        → list_any test (of_each input rows) ≡ true
    by_type true two three p q r =
        any_first test (rows customer_tpid) (rows service_tpid ++ rows input)
        (ap (λ (n : ℕ). list_any test (rows n)) (customer_is (eqb-true tpid customer_tpid p)) ∙ passes)
      where
        customer_is : tpid ≡ customer_tpid → customer_tpid ≡ tpid
        customer_is e = cc
    by_type false true three p q r =
        any_behind test (rows customer_tpid) (rows service_tpid ++ rows input)
        (any_first test (rows service_tpid) (rows input) (ap (λ (n : ℕ). list_any test (rows n)) (service_is (eqb-true tpid service_tpid q)) ∙ passes))
      where
        service_is : tpid ≡ service_tpid → service_tpid ≡ tpid
        service_is e = cc
    by_type false false true p q r =
        any_behind test (rows customer_tpid) (rows service_tpid ++ rows input)
        (any_behind test (rows service_tpid) (rows input) (ap (λ (n : ℕ). list_any test (rows n)) (input_is (eqb-true tpid input r)) ∙ passes))
      where
        input_is : tpid ≡ input → input ≡ tpid
        input_is e = cc
    by_type false false false p q r = absurd (none (rw (p, q, r) at begins))
      where
        none : false ≡ true → ⊥
        none e = cc

-- ---- what is found

pub none_found : (test : Row → Bool) (rows : List Row) → find test rows ≡ None → list_any test rows ≡ false
none_found test [] is = refl
none_found test (row ∷ rest) is = by_first (test row) refl is (none_found test rest)
  where
    by_first : (b : Bool) → test row ≡ b → find test (row ∷ rest) ≡ None → (find test rest ≡ None → list_any test rest ≡ false)
        → list_any test (row ∷ rest) ≡ false
    by_first true has none others = absurd (never (rw has at none))
      where
        never : Some row ≡ None → ⊥
        never e = cc
    by_first false has none others = rw has (others (rw has at none))
