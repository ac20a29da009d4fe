-- Rows of the port of which it doesn't count, where any bytes are wanted, which ones they write.
use Rattle.std.proofs.Common.{◌≡◌, ◌≤◌, ℕ, Bool, true, false, ◌&&◌, List, [], ◌∷◌, Option, Some, None, if◌then◌else◌, arith, refl, ap, sym, length, map, ◌∙◌}
use Rattle.std.specs.Prelude.{All, IsTrue}
use Rattle.std.specs.List.{list_all}
use Rattle.std.specs.Option.{option_map}
use Rattle.std.proofs.lemmas.Bool.{and_parts, false≢true, true≢false}
use Rattle.std.proofs.lemmas.List.{length-map}
use Rattle.std.proofs.lemmas.List.Elements.{All-cons, All-head, All-nil, All-tail}
use Rattle.vlan_rule.specs.declared.settings.TableSettings.{TableSettings}
use Rattle.vlan_rule.specs.declared.treatment.Treatment.TheVariants as change
use Rattle.vlan_rule.specs.Meaning.{treatment_fits}
use Rattle.frame_rows.specs.declared.class.Ending.{Ending}
use Rattle.frame_rows.specs.declared.class.FrameClass.{FrameClass}
use Rattle.frame_rows.specs.declared.field.Values.{Values}
use Rattle.frame_rows.specs.declared.row.Ends.{Ends}
use Rattle.frame_rows.specs.declared.row.Row.{Row}
use Rattle.frame_rows.specs.Field.{fields}
use Rattle.frame_rows.specs.Fits.{ask_fits, ends_fit, marking_fits, row_fits, tags_fit}
use Rattle.frame_rows.specs.Row.{ask_at, class_by, class_of_row, first_row, passes}
use Rattle.frame_rows.specs.Rows.{IsMarked}
use Rattle.frame_expectation.specs.declared.wanted.WantedTreatment.{WantedTreatment}
use Rattle.frame_expectation.specs.declared.wanted.WantedTreatment.TheVariants as treatment
use Rattle.expectation_rows.specs.Decision.{counted_rows, is_any, plain}

-- ---- a row

abbrev pub counted : WantedTreatment → Row → Row
counted treatment.Any row = plain row
counted treatment.Unchanged row = row
counted (treatment.Retag wanted) row = row

pub counted_ends : (by : WantedTreatment) (row : Row) → (counted by row).ends ≡ row.ends
counted_ends treatment.Any row = refl
counted_ends treatment.Unchanged row = refl
counted_ends (treatment.Retag wanted) row = refl

pub counted_same : (by : WantedTreatment) (row : Row) → is_any by ≡ false → counted by row ≡ row
counted_same treatment.Any row is = absurd (true≢false is)
counted_same treatment.Unchanged row is = refl
counted_same (treatment.Retag wanted) row is = refl

-- ---- the first row

first_plain : (rows : List Row) (values : Values) → first_row (map plain rows) values ≡ option_map plain (first_row rows values)
first_plain [] values = refl
first_plain (row ∷ rest) values = by_test (passes fields row values) refl (first_plain rest values)
  where
    by_test : (b : Bool) → passes fields row values ≡ b → first_row (map plain rest) values ≡ option_map plain (first_row rest values)
        → first_row (map plain (row ∷ rest)) values ≡ option_map plain (first_row (row ∷ rest) values)
    by_test true is later = rw is refl
    by_test false is later = rw is later

pub first_counted : (by : WantedTreatment) (rows : List Row) (values : Values) (row : Row) → first_row rows values ≡ Some row
    → first_row (counted_rows by rows) values ≡ Some (counted by row)
first_counted treatment.Any rows values row is = first_plain rows values ∙ ap (option_map plain) is
first_counted treatment.Unchanged rows values row is = is
first_counted (treatment.Retag wanted) rows values row is = is

class_plain : (some : List Ending) (first : Option Row) (values : Values)
    → option_map (λ row. class_of_row some row values) (option_map plain first) ≡ option_map (λ row. class_of_row some row values) first
class_plain some None values = refl
class_plain some (Some row) values = refl

pub class_counted : (by : WantedTreatment) (some : List Ending) (rows : List Row) (values : Values)
    → class_by some (counted_rows by rows) values ≡ class_by some rows values
class_counted treatment.Any some rows values =
    ap (option_map (λ row. class_of_row some row values)) (first_plain rows values) ∙ class_plain some (first_row rows values) values
class_counted treatment.Unchanged some rows values = refl
class_counted (treatment.Retag wanted) some rows values = refl

-- ---- what they ask and write

plain_fits : (input : ℕ) (row : Row) → IsTrue (row_fits input row) → IsTrue (row_fits input (plain row))
plain_fits input row h =
    let asks = and_parts (list_all (λ field. ask_fits input field (ask_at row field)) fields)
    (ends_fit row.ends && (marking_fits row.marking && (tags_fit input row && treatment_fits (change.Retag row.retag)))) h in
    let ends = and_parts (ends_fit row.ends) (marking_fits row.marking && (tags_fit input row && treatment_fits (change.Retag row.retag))) asks.1 in
    let marks = and_parts (marking_fits row.marking) (tags_fit input row && treatment_fits (change.Retag row.retag)) ends.1 in
    let tags = and_parts (tags_fit input row) (treatment_fits (change.Retag row.retag)) marks.1 in
    rw (asks.0, ends.0, tags.0) refl

all_plain : (P : Row → Type 0) (rows : List Row) → ((row : Row) → P row → P (plain row)) → All P rows → All P (map plain rows)
all_plain P [] one h = All-nil P
all_plain P (row ∷ rest) one h = All-cons P (plain row) (map plain rest) (one row (All-head P row rest h)) (all_plain P rest one (All-tail P row rest h))

pub counted_fits : (by : WantedTreatment) (input : ℕ) (rows : List Row) → All (λ row. IsTrue (row_fits input row)) rows
    → All (λ row. IsTrue (row_fits input row)) (counted_rows by rows)
counted_fits treatment.Any input rows h = all_plain (λ row. IsTrue (row_fits input row)) rows (plain_fits input) h
counted_fits treatment.Unchanged input rows h = h
counted_fits (treatment.Retag wanted) input rows h = h

pub counted_marked : (by : WantedTreatment) (settings : TableSettings) (rows : List Row) → All (IsMarked settings) rows
    → All (IsMarked settings) (counted_rows by rows)
counted_marked treatment.Any settings rows h = all_plain (IsMarked settings) rows (λ row marked. refl) h
counted_marked treatment.Unchanged settings rows h = h
counted_marked (treatment.Retag wanted) settings rows h = h

pub counted_few : (by : WantedTreatment) (rows : List Row) → length rows ≤ 134 → length (counted_rows by rows) ≤ 134
counted_few treatment.Any rows h = omega (arith, length-map rows plain, h)
counted_few treatment.Unchanged rows h = h
counted_few (treatment.Retag wanted) rows h = h
