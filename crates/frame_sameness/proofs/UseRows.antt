-- Rows whose frames leave with a tag of their use see every frame otherwise that two tables use otherwise.
use Rattle.std.proofs.Common.{◌≡◌, ◌⊎◌, inl, inr, ◌+◌, ◌*◌, ◌==◌, ◌||◌, ◌&&◌, ℕ, Bool, true, false, List, [], ◌∷◌, Option, Some, None, arith, refl, ap, sym, ◌∙◌}
use Rattle.std.specs.Prelude.{All, IsTrue, map, nat_lt, slice_index_or}
use Rattle.std.specs.List.{list_all}
use Rattle.std.specs.Option.{option_map}
use Rattle.std.proofs.lemmas.Bool.{and_parts, true≢false}
use Rattle.std.proofs.lemmas.List.Elements.{All-append, All-cons, All-head, All-nil, All-tail, All-from_recursion}
use Rattle.vlan_rule.specs.declared.filter.EthertypeFilter.{EthertypeFilter}
use Rattle.vlan_rule.specs.declared.filter.Filter.{Filter}
use Rattle.vlan_rule.specs.declared.filter.Filter.TheVariants as filter
use Rattle.vlan_rule.specs.declared.settings.TableSettings.{TableSettings}
use Rattle.vlan_rule.specs.declared.treatment.Retag.{Retag}
use Rattle.vlan_rule.specs.declared.treatment.Treatment.TheVariants as treatment
use Rattle.frame_rows.specs.declared.source.Source.TheVariants.{Fixed}
use Rattle.vlan_rule.specs.Meaning.{filter_of, treatment_fits}
use Rattle.vlan_rule.specs.Choice.{entry_at}
use Rattle.pmapper.specs.Mapper.{Unmarked}
use Rattle.mib_state.specs.Entities.{Entities}
use Rattle.frame_meaning.specs.declared.reason.Reason.{Reason}
use Rattle.frame_meaning.specs.declared.reason.Reason.TheVariants.{Runt, CutTag}
use Rattle.frame_meaning.specs.Meaning.{Table, input_tpid_of, mapper_at, table_at, unmarked_at}
use Rattle.explain.specs.Order.{tried_order}
use Rattle.frame_rows.specs.declared.ask.Ask.TheVariants.{Any}
use Rattle.frame_rows.specs.declared.class.Use.{Use}
use Rattle.frame_rows.specs.declared.class.Use.TheVariants.{Unread, NoTable, Entry, NoEntry}
use Rattle.frame_rows.specs.declared.field.Field.TheVariants.{Length, FirstType, SecondType}
use Rattle.frame_rows.specs.declared.field.Values.{Values}
use Rattle.frame_rows.specs.declared.row.Ends.TheVariants as ends
use Rattle.frame_rows.specs.declared.row.Row.{Row}
use Rattle.frame_rows.specs.Field.{fields}
use Rattle.frame_rows.specs.Fits.{ask_fits, asks_long, asks_tag, ends_fit, length_fits, marking_fits, row_fits, tags_fit}
use Rattle.frame_rows.specs.Row.{ask_at, asks_of, first_row, passes, tags_of}
use Rattle.frame_rows.specs.Rows.{IsMarked, entry_rows, fault_rows, kept_rows, rows_of, table_rows, unmatched_rows}
use Rattle.frame_rows.specs.Sight.{Side, seen_apart, rows_apart}
use Rattle.frame_sameness.specs.UseRows.{is_long, use_code, use_row, use_side}

-- ---- the rows of a port: frames can't be read and are dropped, or have their tags and a type behind them

pub record IsUnread (row : Row) : Type 0 where
  pub used : row.used ≡ Unread
  pub reason : Reason
  pub ends : row.ends ≡ ends.Dropped reason

abbrev pub IsPlain : Row → Type 0
IsPlain row = (is_long row ≡ true) ⊎ IsUnread row

long_of : (f : Filter) (type : EthertypeFilter) (input : ℕ) → asks_long (14 + 4 * tags_of f) (slice_index_or (asks_of f type input) 0 Any) ≡ true
long_of filter.NoTag type input = refl
long_of filter.OneTagDefault type input = refl
long_of (filter.OneTag tag) type input = refl
long_of filter.TwoTagDefault type input = refl
long_of (filter.TwoTag outer inner) type input = refl

plain_faults : (input : ℕ) → All IsPlain (fault_rows input)
plain_faults input =
    All-from_recursion IsPlain (fault_rows input) (
      inr (record { used = refl; reason = Runt; ends = refl }),
      (inr (record { used = refl; reason = CutTag; ends = refl }), (inr (record { used = refl; reason = CutTag; ends = refl }), tt)),
    )

plain_entries : (table : Table) (unmarked : Option Unmarked) (number : ℕ) (places : List ℕ) → All IsPlain (entry_rows table unmarked number places)
plain_entries table unmarked number [] = All-nil IsPlain
plain_entries table unmarked number (place ∷ rest) =
    All-cons IsPlain _ _ (inl (long_of (filter_of (entry_at table.entries place)) _ table.settings.input_tpid)) (plain_entries table unmarked (number + 1) rest)

plain_table : (table : Option Table) (unmarked : Option Unmarked) → All IsPlain (table_rows table unmarked)
plain_table None unmarked = All-from_recursion IsPlain (kept_rows unmarked) (inl refl, (inl refl, (inl refl, tt)))
plain_table (Some table) unmarked =
    All-append IsPlain (entry_rows table unmarked 0 (tried_order table.entries)) (unmatched_rows table.settings.input_tpid)
    (plain_entries table unmarked 0 (tried_order table.entries))
    (All-from_recursion IsPlain (unmatched_rows table.settings.input_tpid) (inl refl, (inl refl, (inl refl, tt))))

pub plain_rows : (e : Entities) (port : ℕ) → All IsPlain (rows_of e port)
plain_rows e port =
    All-append IsPlain (fault_rows (input_tpid_of (table_at e port))) (table_rows (table_at e port) (option_map unmarked_at (mapper_at e port)))
    (plain_faults (input_tpid_of (table_at e port))) (plain_table (table_at e port) (option_map unmarked_at (mapper_at e port)))

-- ---- they choose as the rows that they are made of

passes_use : (row : Row) (values : Values) → passes fields (use_row row) values ≡ passes fields row values
passes_use row values = by_long (is_long row) refl
  where
    by_long : (b : Bool) → is_long row ≡ b → passes fields (use_row row) values ≡ passes fields row values
    by_long true is = rw is refl
    by_long false is = rw is refl

pub first_use : (rows : List Row) (values : Values) → first_row (map use_row rows) values ≡ option_map use_row (first_row rows values)
first_use [] values = refl
first_use (row ∷ rest) values = by_pass (passes fields row values) refl (first_use rest values)
  where
    by_pass : (b : Bool) → passes fields row values ≡ b → first_row (map use_row rest) values ≡ option_map use_row (first_row rest values)
        → first_row (map use_row (row ∷ rest)) values ≡ option_map use_row (first_row (row ∷ rest) values)
    by_pass true is later =
        let first = passes_use row values in
        rw (first, is) refl
    by_pass false is later =
        let first = passes_use row values in
        rw (first, is) later

pub used_kept : (row : Row) → (use_row row).used ≡ row.used
used_kept row = by_long (is_long row) refl
  where
    by_long : (b : Bool) → is_long row ≡ b → (use_row row).used ≡ row.used
    by_long true is = rw is refl
    by_long false is = rw is refl

-- ---- what they ask and write fits

pub marks_use : (settings : TableSettings) (row : Row) → IsMarked settings row → IsMarked settings (use_row row)
marks_use settings row marked = by_long (is_long row) refl
  where
    by_long : (b : Bool) → is_long row ≡ b → IsMarked settings (use_row row)
    by_long true is = rw is refl
    by_long false is = rw is marked

pub marks_uses : (settings : TableSettings) (rows : List Row) → All (IsMarked settings) rows → All (IsMarked settings) (map use_row rows)
marks_uses settings [] h = All-nil (IsMarked settings)
marks_uses settings (row ∷ rest) h =
    All-cons (IsMarked settings) (use_row row) (map use_row rest) (marks_use settings row (All-head (IsMarked settings) row rest h))
    (marks_uses settings rest (All-tail (IsMarked settings) row rest h))

-- ---- a code of each use's own

pub code_tells : (one other : Use) → use_code one ≡ use_code other → one ≡ other
code_tells Unread Unread h = refl
code_tells Unread NoTable h = absurd (omega (arith, h))
code_tells Unread NoEntry h = absurd (omega (arith, h))
code_tells Unread (Entry n) h = absurd (omega (arith, h))
code_tells NoTable Unread h = absurd (omega (arith, h))
code_tells NoTable NoTable h = refl
code_tells NoTable NoEntry h = absurd (omega (arith, h))
code_tells NoTable (Entry n) h = absurd (omega (arith, h))
code_tells NoEntry Unread h = absurd (omega (arith, h))
code_tells NoEntry NoTable h = absurd (omega (arith, h))
code_tells NoEntry NoEntry h = refl
code_tells NoEntry (Entry n) h = absurd (omega (arith, h))
code_tells (Entry n) Unread h = absurd (omega (arith, h))
code_tells (Entry n) NoTable h = absurd (omega (arith, h))
code_tells (Entry n) NoEntry h = absurd (omega (arith, h))
code_tells (Entry n) (Entry m) h =
    let same : n ≡ m = omega (arith, h) in
    ap (λ (k : ℕ). Entry k) same

-- ---- so what is used otherwise is seen otherwise

rows_apart_by : (one other : Side) (values : Values) (row row' : Row) → IsPlain row → IsPlain row' → (use_code row.used == use_code row'.used) ≡ false
    → rows_apart true (use_side one) (use_side other) values (Some (use_row row)) (Some (use_row row')) ≡ true
rows_apart_by one other values row row' plain plain' differ = by_long (is_long row) refl (is_long row') refl plain plain'
  where
    by_long : (b : Bool) → is_long row ≡ b → (b' : Bool) → is_long row' ≡ b' → IsPlain row → IsPlain row'
        → rows_apart true (use_side one) (use_side other) values (Some (use_row row)) (Some (use_row row')) ≡ true
    by_long true is true is' p p' = rw (is, is', differ) refl
    by_long true is false is' p (inl long) = absurd (true≢false (sym long ∙ is'))
    by_long true is false is' p (inr unread) = rw (is, is', unread.ends) refl
    by_long false is true is' (inl long) p' = absurd (true≢false (sym long ∙ is))
    by_long false is true is' (inr unread) p' = rw (is, is', unread.ends) refl
    by_long false is false is' (inl long) p' = absurd (true≢false (sym long ∙ is))
    by_long false is false is' (inr unread) (inl long) = absurd (true≢false (sym long ∙ is'))
    by_long false is false is' (inr unread) (inr unread') =
        absurd (true≢false (sym (ap (λ (u : Use). use_code u == use_code row'.used) unread.used ∙ ap (λ (u : Use). 0 == use_code u) unread'.used) ∙ differ))

pub use_apart : (one other : Side) (values : Values) (row row' : Row) → IsPlain row → IsPlain row' → first_row one.rows values ≡ Some row
    → first_row other.rows values ≡ Some row' → (use_code row.used == use_code row'.used) ≡ false → seen_apart true (use_side one) (use_side other) values ≡ true
use_apart one other values row row' plain plain' first first' differ =
    ap (λ (o : Option Row). rows_apart true (use_side one) (use_side other) values o (first_row (map use_row other.rows) values))
    (first_use one.rows values ∙ ap (option_map use_row) first)
    ∙ ap (rows_apart true (use_side one) (use_side other) values (Some (use_row row))) (first_use other.rows values ∙ ap (option_map use_row) first')
    ∙ rows_apart_by one other values row row' plain plain' differ

-- ---- a row that leaves so fits

pub fits_long : (input : ℕ) (row : Row) (retag : Retag) → is_long row ≡ true → treatment_fits (treatment.Retag retag) ≡ true → IsTrue (row_fits input row)
    → IsTrue (row_fits input (record { used = row.used; ends = ends.ByPriority (Fixed 0); asks = row.asks; tags = row.tags; retag = retag; marking = None }))
fits_long input row retag long treats fits =
    let all = and_parts (list_all (λ field. ask_fits input field (ask_at row field)) fields) _ fits in
    let tags = (and_parts (tags_fit input row) (treatment_fits (treatment.Retag row.retag))
    (and_parts (marking_fits row.marking) (tags_fit input row && treatment_fits (treatment.Retag row.retag))
    (and_parts (ends_fit row.ends) (marking_fits row.marking && (tags_fit input row && treatment_fits (treatment.Retag row.retag))) all.1).1).1).0 in
    let few = and_parts (nat_lt row.tags 3) _ tags in
    let first = and_parts (nat_lt row.tags 1 || asks_tag input (ask_at row FirstType)) _ few.1 in
    let second = and_parts (nat_lt row.tags 2 || asks_tag input (ask_at row SecondType)) (length_fits row.ends row.tags (ask_at row Length)) first.1 in
    rw (all.0, few.0, first.0, second.0, long, treats) refl
