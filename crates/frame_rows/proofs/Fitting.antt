-- The rows of a port ask and read what they may, and aren't many.
use Rattle.std.proofs.Common.{◌≡◌, ℕ, suc, ◌+◌, ◌≤◌, ◌==◌, Bool, true, false, ◌&&◌, ◌||◌, List, [], ◌∷◌, ◌++◌, Option, Some, None, arith, refl, ap, sym, subst, length, length-append, if◌then◌else◌, nat_le}
use Rattle.std.specs.Prelude.{All, IfSome, IsTrue, nat_lt, slice_index_or}
use Rattle.std.specs.List.{list_all}
use Rattle.std.proofs.lemmas.Bool.{and_from, eq-eqb}
use Rattle.std.proofs.lemmas.List.Elements.{All-append, All-cons, All-head, All-nil, All-tail}
use Rattle.tag_view.specs.Tag.{customer_tpid}
use Rattle.vlan_rule.specs.declared.settings.TableSettings.{TableSettings}
use Rattle.vlan_rule.specs.declared.filter.EthertypeFilter.{EthertypeFilter}
use Rattle.vlan_rule.specs.declared.filter.EthertypeFilter.TheVariants as ethertype
use Rattle.vlan_rule.specs.declared.filter.PriorityFilter.{PriorityFilter}
use Rattle.vlan_rule.specs.declared.filter.PriorityFilter.TheVariants as priority
use Rattle.vlan_rule.specs.declared.filter.VidFilter.{VidFilter}
use Rattle.vlan_rule.specs.declared.filter.VidFilter.TheVariants as vid
use Rattle.vlan_rule.specs.declared.filter.TpidFilter.{TpidFilter}
use Rattle.vlan_rule.specs.declared.filter.TpidFilter.TheVariants as tpid
use Rattle.vlan_rule.specs.declared.filter.Filter.{Filter}
use Rattle.vlan_rule.specs.declared.filter.Filter.TheVariants as filter
use Rattle.vlan_rule.specs.declared.treatment.PrioritySource.{PrioritySource}
use Rattle.vlan_rule.specs.declared.treatment.PrioritySource.TheVariants as from
use Rattle.vlan_rule.specs.declared.treatment.AddedTag.{AddedTag}
use Rattle.vlan_rule.specs.declared.treatment.Treatment.{Treatment}
use Rattle.vlan_rule.specs.declared.treatment.Treatment.TheVariants as treatment
use Rattle.vlan_rule.specs.Choice.{entry_at}
use Rattle.vlan_rule.specs.Meaning.{ethertype_of, filter_of, treatment_fits, treatment_of}
use Rattle.treatment.specs.Compiled.{takes_dscp}
use Rattle.pmapper.specs.Mapper.{Unmarked}
use Rattle.explain.specs.Order.{tried_order}
use Rattle.frame_meaning.specs.declared.reason.Reason.TheVariants.{NoRule}
use Rattle.frame_meaning.specs.Meaning.{Table, input_tpid_of}
use Rattle.frame_rows.specs.declared.ask.Ask.TheVariants.{Any}
use Rattle.frame_rows.specs.declared.source.DscpSource.{DscpSource}
use Rattle.frame_rows.specs.declared.source.Source.{Source}
use Rattle.frame_rows.specs.declared.source.Source.TheVariants.{Fixed, FirstTag, SecondTag}
use Rattle.frame_rows.specs.declared.row.Ends.{Ends}
use Rattle.frame_rows.specs.declared.row.Ends.TheVariants as ends
use Rattle.frame_rows.specs.declared.row.Row.{Row}
use Rattle.frame_rows.specs.Ask.{eligible_ask, priority_ask, vid_ask}
use Rattle.frame_rows.specs.Field.{fields, place_of}
use Rattle.frame_rows.specs.Fits.{ask_fits, asks_number, asks_tag, ends_fit, length_fits, marking_fits, row_fits, source_fits, tags_fit}
use Rattle.frame_rows.specs.Row.{ask_at, asks_of, first_cut_row, runt_row, second_cut_row, tags_of}
use Rattle.frame_rows.specs.Rows.{IsMarked, entry_row, entry_rows, fault_rows, kept_ends, kept_row, kept_rows, marking_of, no_settings, retag_of, rows_by, settings_by, table_rows, treated_ends, unmatched_row, unmatched_rows}
use Rattle.frame_rows.specs.Treatments.{Fits, TreatmentsFit}
use Rattle.frame_rows.specs.Source.{added_source, kept_source, left_source, outermost_added, unmarked_source}

-- ---- what is asked

same_number : (n : ℕ) → (n == n) ≡ true
same_number n = eq-eqb n n refl

vid_number : (f : VidFilter) → asks_number (vid_ask f) ≡ true
vid_number vid.Any = refl
vid_number (vid.Exactly v) = refl

priority_number : (f : PriorityFilter) → asks_number (priority_ask f) ≡ true
priority_number priority.Any = refl
priority_number (priority.Exactly p) = refl

eligible_number : (f : TpidFilter) → asks_number (eligible_ask f) ≡ true
eligible_number tpid.Any = refl
eligible_number tpid.Standard = refl
eligible_number tpid.Input = refl
eligible_number tpid.InputNotEligible = refl
eligible_number tpid.InputEligible = refl

asks_fit : (f : Filter) (type : EthertypeFilter) (input : ℕ)
    → list_all (λ field. ask_fits input field (slice_index_or (asks_of f type input) (place_of field) Any)) fields ≡ true
asks_fit filter.NoTag type input = rw (same_number input) refl
asks_fit filter.OneTagDefault type input = rw (same_number input) refl
asks_fit (filter.OneTag tag) type input =
    rw (same_number input, vid_number tag.vid, priority_number tag.priority, eligible_number tag.tpid) refl
asks_fit filter.TwoTagDefault type input = rw (same_number input) refl
asks_fit (filter.TwoTag outer inner) type input =
    rw (
      same_number input,
      vid_number outer.vid,
      vid_number inner.vid,
      priority_number outer.priority,
      priority_number inner.priority,
      eligible_number outer.tpid,
      eligible_number inner.tpid,
    ) refl

-- ---- what is read

fits_if : (b : Bool) (one other : Source) → source_fits one ≡ true → source_fits other ≡ true → source_fits (if b then one else other) ≡ true
fits_if true one other p q = p
fits_if false one other p q = q

few_tags : (f : Filter) → nat_lt (tags_of f) 3 ≡ true
few_tags filter.NoTag = refl
few_tags filter.OneTagDefault = refl
few_tags (filter.OneTag tag) = refl
few_tags filter.TwoTagDefault = refl
few_tags (filter.TwoTag outer inner) = refl

unmarked_fits : (unmarked : Unmarked) (tags : ℕ) → nat_lt tags 3 ≡ true → source_fits (unmarked_source unmarked tags) ≡ true
unmarked_fits unmarked tags few = by_option (unmarked.option == 0) refl
  where
    by_option : (b : Bool) → (unmarked.option == 0) ≡ b → source_fits (unmarked_source unmarked tags) ≡ true
    by_option true is = rw is few
    by_option false is = rw is refl

kept_fits : (unmarked : Unmarked) (tags : ℕ) → nat_lt tags 3 ≡ true → source_fits (kept_source unmarked tags) ≡ true
kept_fits unmarked tags few = fits_if (tags == 0) (unmarked_source unmarked tags) FirstTag (unmarked_fits unmarked tags few) refl

left_fits : (remove : ℕ) (unmarked : Unmarked) (tags : ℕ) → nat_lt tags 3 ≡ true → source_fits (left_source remove unmarked tags) ≡ true
left_fits remove unmarked tags few =
    fits_if (nat_le tags remove) (unmarked_source unmarked tags) (if remove == 0 then FirstTag else SecondTag) (unmarked_fits unmarked tags few)
    (fits_if (remove == 0) FirstTag SecondTag refl refl)

added_fits : (source : PrioritySource) (settings : TableSettings) (tags : ℕ) → nat_lt tags 3 ≡ true
    → source_fits (added_source source settings tags) ≡ true
added_fits (from.Fixed priority) settings tags few = refl
added_fits from.Inner settings tags few =
    fits_if (tags == 0) (Fixed 0) (if tags == 1 then FirstTag else SecondTag) refl (fits_if (tags == 1) FirstTag SecondTag refl refl)
added_fits from.Outer settings tags few = fits_if (tags == 0) (Fixed 0) FirstTag refl refl
added_fits from.Dscp settings tags few = few

outermost_fits : (outer inner : Option AddedTag) (remove : ℕ) (settings : TableSettings) (unmarked : Unmarked) (tags : ℕ) → nat_lt tags 3 ≡ true
    → source_fits (outermost_added outer inner remove settings unmarked tags) ≡ true
outermost_fits (Some added) inner remove settings unmarked tags few = added_fits added.priority settings tags few
outermost_fits None (Some added) remove settings unmarked tags few = added_fits added.priority settings tags few
outermost_fits None None remove settings unmarked tags few = left_fits remove unmarked tags few

treated_fit : (by : Treatment) (settings : TableSettings) (unmarked : Option Unmarked) (tags : ℕ) → nat_lt tags 3 ≡ true
    → ends_fit (treated_ends by settings unmarked tags) ≡ true
treated_fit treatment.Discard settings unmarked tags few = refl
treated_fit (treatment.Retag retag) settings None tags few = refl
treated_fit (treatment.Retag retag) settings (Some unmarked) tags few =
    outermost_fits retag.outer retag.inner retag.remove settings unmarked tags few

kept_fit : (unmarked : Option Unmarked) (tags : ℕ) → nat_lt tags 3 ≡ true → ends_fit (kept_ends unmarked tags) ≡ true
kept_fit None tags few = refl
kept_fit (Some unmarked) tags few = kept_fits unmarked tags few

-- ---- which tags leave

marking_fit : (asked : Bool) (source : DscpSource) → nat_lt source.tags 3 ≡ true → marking_fits (if asked then Some source else None) ≡ true
marking_fit true source few = few
marking_fit false source few = refl

retag_fits : (by : Treatment) → treatment_fits by ≡ true → treatment_fits (treatment.Retag (retag_of by)) ≡ true
retag_fits treatment.Discard fits = refl
retag_fits (treatment.Retag retag) fits = fits

-- the tags that a filter asks for, and a length that holds them
tags_asked : (f : Filter) (type : EthertypeFilter) (input : ℕ) (how : Ends) →
    let asked = λ (place : ℕ). slice_index_or (asks_of f type input) place Any in
    (nat_lt (tags_of f) 3
    && ((nat_lt (tags_of f) 1 || asks_tag input (asked 1))
    && ((nat_lt (tags_of f) 2 || asks_tag input (asked 2)) && length_fits how (tags_of f) (asked 0)))) ≡ true
tags_asked filter.NoTag type input (ends.Dropped reason) = refl
tags_asked filter.NoTag type input (ends.ByPriority source) = refl
tags_asked filter.OneTagDefault type input (ends.Dropped reason) = rw (same_number input) refl
tags_asked filter.OneTagDefault type input (ends.ByPriority source) = rw (same_number input) refl
tags_asked (filter.OneTag tag) type input (ends.Dropped reason) = rw (same_number input) refl
tags_asked (filter.OneTag tag) type input (ends.ByPriority source) = rw (same_number input) refl
tags_asked filter.TwoTagDefault type input (ends.Dropped reason) = rw (same_number input) refl
tags_asked filter.TwoTagDefault type input (ends.ByPriority source) = rw (same_number input) refl
tags_asked (filter.TwoTag outer inner) type input (ends.Dropped reason) = rw (same_number input) refl
tags_asked (filter.TwoTag outer inner) type input (ends.ByPriority source) = rw (same_number input) refl

-- ---- rows

abbrev pub AllFit : ℕ → List Row → Type 0
AllFit input rows = All (λ row. IsTrue (row_fits input row)) rows

parts_fit : (input : ℕ) (row : Row) → list_all (λ field. ask_fits input field (ask_at row field)) fields ≡ true → ends_fit row.ends ≡ true
    → marking_fits row.marking ≡ true → tags_fit input row ≡ true → treatment_fits (treatment.Retag row.retag) ≡ true → IsTrue (row_fits input row)
parts_fit input row asks how marking tags retag =
    and_from _ _ asks (and_from _ _ how (and_from _ _ marking (and_from _ _ tags retag)))

three_fit : (input : ℕ) (a b c : Row) → IsTrue (row_fits input a) → IsTrue (row_fits input b) → IsTrue (row_fits input c) → AllFit input (a ∷ b ∷ c ∷ [])
three_fit input a b c p q r =
    let fits = λ (row : Row). IsTrue (row_fits input row) in
    All-cons fits a (b ∷ c ∷ []) p (All-cons fits b (c ∷ []) q (All-cons fits c [] r (All-nil fits)))

runt_fits : (input : ℕ) → IsTrue (row_fits input runt_row)
runt_fits input = refl

first_cut_fits : (input : ℕ) → IsTrue (row_fits input (first_cut_row input))
first_cut_fits input = rw (same_number input) refl

second_cut_fits : (input : ℕ) → IsTrue (row_fits input (second_cut_row input))
second_cut_fits input = rw (same_number input) refl

faults_fit : (input : ℕ) → AllFit input (fault_rows input)
faults_fit input =
    three_fit input runt_row (first_cut_row input) (second_cut_row input) (runt_fits input) (first_cut_fits input) (second_cut_fits input)

kept_row_fits : (unmarked : Option Unmarked) (f : Filter) → IsTrue (row_fits customer_tpid (kept_row unmarked f))
kept_row_fits unmarked f =
    parts_fit customer_tpid (kept_row unmarked f) (asks_fit f ethertype.Any customer_tpid) (kept_fit unmarked (tags_of f) (few_tags f)) refl
    (tags_asked f ethertype.Any customer_tpid (kept_ends unmarked (tags_of f))) refl

kept_rows_fit : (unmarked : Option Unmarked) → AllFit customer_tpid (kept_rows unmarked)
kept_rows_fit unmarked =
    three_fit customer_tpid (kept_row unmarked filter.NoTag) (kept_row unmarked filter.OneTagDefault) (kept_row unmarked filter.TwoTagDefault)
    (kept_row_fits unmarked filter.NoTag) (kept_row_fits unmarked filter.OneTagDefault) (kept_row_fits unmarked filter.TwoTagDefault)

unmatched_row_fits : (input : ℕ) (f : Filter) → IsTrue (row_fits input (unmatched_row input f))
unmatched_row_fits input f =
    parts_fit input (unmatched_row input f) (asks_fit f ethertype.Any input) refl refl (tags_asked f ethertype.Any input (ends.Dropped NoRule)) refl

unmatched_rows_fit : (input : ℕ) → AllFit input (unmatched_rows input)
unmatched_rows_fit input =
    three_fit input (unmatched_row input filter.NoTag) (unmatched_row input filter.OneTagDefault) (unmatched_row input filter.TwoTagDefault)
    (unmatched_row_fits input filter.NoTag) (unmatched_row_fits input filter.OneTagDefault) (unmatched_row_fits input filter.TwoTagDefault)

entry_row_fits : (table : Table) (unmarked : Option Unmarked) (number : ℕ) (entry : List ℕ) → treatment_fits (treatment_of entry) ≡ true
    → IsTrue (row_fits table.settings.input_tpid (entry_row table unmarked number entry))
entry_row_fits table unmarked number entry fits =
    let by = treatment_of entry in
    let tags = tags_of (filter_of entry) in
    parts_fit table.settings.input_tpid (entry_row table unmarked number entry)
    (asks_fit (filter_of entry) (ethertype_of entry) table.settings.input_tpid)
    (treated_fit by table.settings unmarked tags (few_tags (filter_of entry)))
    (marking_fit (takes_dscp by) (record { tags = tags; map = table.settings.dscp_map; without = 0 }) (few_tags (filter_of entry)))
    (tags_asked (filter_of entry) (ethertype_of entry) table.settings.input_tpid (treated_ends by table.settings unmarked tags)) (retag_fits by fits)

entry_rows_fit : (table : Table) (unmarked : Option Unmarked) (number : ℕ) (places : List ℕ) → All (Fits table.entries) places
    → AllFit table.settings.input_tpid (entry_rows table unmarked number places)
entry_rows_fit table unmarked number [] fits = All-nil (λ row. IsTrue (row_fits table.settings.input_tpid row))
entry_rows_fit table unmarked number (place ∷ rest) fits =
    All-cons (λ row. IsTrue (row_fits table.settings.input_tpid row)) (entry_row table unmarked number (entry_at table.entries place))
    (entry_rows table unmarked (number + 1) rest)
    (entry_row_fits table unmarked number (entry_at table.entries place) (All-head (Fits table.entries) place rest fits))
    (entry_rows_fit table unmarked (number + 1) rest (All-tail (Fits table.entries) place rest fits))

table_fits : (table : Option Table) (unmarked : Option Unmarked) → IfSome table (λ table. TreatmentsFit table.entries)
    → AllFit (settings_by table).input_tpid (table_rows table unmarked)
table_fits None unmarked fits = kept_rows_fit unmarked
table_fits (Some table) unmarked fits =
    All-append (λ row. IsTrue (row_fits table.settings.input_tpid row)) (entry_rows table unmarked 0 (tried_order table.entries))
    (unmatched_rows table.settings.input_tpid) (entry_rows_fit table unmarked 0 (tried_order table.entries) fits)
    (unmatched_rows_fit table.settings.input_tpid)

-- by the settings frames are read as by the table
read_alike : (table : Option Table) → input_tpid_of table ≡ (settings_by table).input_tpid
unfolding input_tpid_of
read_alike None = refl
read_alike (Some table) = refl

-- each row of a port is such
all_fit : (table : Option Table) (unmarked : Option Unmarked) → IfSome table (λ table. TreatmentsFit table.entries)
    → AllFit (settings_by table).input_tpid (rows_by table unmarked)
all_fit table unmarked fits =
    All-append (λ row. IsTrue (row_fits (settings_by table).input_tpid row)) (fault_rows (input_tpid_of table)) (table_rows table unmarked)
    (subst (λ (input : ℕ). AllFit (settings_by table).input_tpid (fault_rows input)) (sym (read_alike table)) (faults_fit (settings_by table).input_tpid))
    (table_fits table unmarked fits)

-- by what code makes of them
pub fit_along : (table : Option Table) (unmarked : Option Unmarked) (settings : TableSettings) (rows : List Row)
    → IfSome table (λ table. TreatmentsFit table.entries) → settings ≡ settings_by table → rows ≡ rows_by table unmarked → AllFit settings.input_tpid rows
fit_along table unmarked settings rows fits p q =
    subst (λ (s : TableSettings). AllFit s.input_tpid rows) (sym p)
    (subst (λ (x : List Row). AllFit (settings_by table).input_tpid x) (sym q) (all_fit table unmarked fits))

-- ---- which DSCP is asked for

three_marked : (settings : TableSettings) (a b c : Row) → IsMarked settings a → IsMarked settings b → IsMarked settings c
    → All (IsMarked settings) (a ∷ b ∷ c ∷ [])
three_marked settings a b c p q r =
    All-cons (IsMarked settings) a (b ∷ c ∷ []) p
    (All-cons (IsMarked settings) b (c ∷ []) q (All-cons (IsMarked settings) c [] r (All-nil (IsMarked settings))))

marked_by : (by : Treatment) (settings : TableSettings) (tags : ℕ) → marking_of by settings tags ≡ marking_of (treatment.Retag (retag_of by)) settings tags
marked_by treatment.Discard settings tags = refl
marked_by (treatment.Retag retag) settings tags = refl

entry_rows_marked : (table : Table) (unmarked : Option Unmarked) (number : ℕ) (places : List ℕ)
    → All (IsMarked table.settings) (entry_rows table unmarked number places)
entry_rows_marked table unmarked number [] = All-nil (IsMarked table.settings)
entry_rows_marked table unmarked number (place ∷ rest) =
    let entry = entry_at table.entries place in
    All-cons (IsMarked table.settings) (entry_row table unmarked number entry) (entry_rows table unmarked (number + 1) rest)
    (marked_by (treatment_of entry) table.settings (tags_of (filter_of entry))) (entry_rows_marked table unmarked (number + 1) rest)

table_marked : (table : Option Table) (unmarked : Option Unmarked) → All (IsMarked (settings_by table)) (table_rows table unmarked)
table_marked None unmarked =
    three_marked no_settings (kept_row unmarked filter.NoTag) (kept_row unmarked filter.OneTagDefault) (kept_row unmarked filter.TwoTagDefault) refl refl refl
table_marked (Some table) unmarked =
    let input = table.settings.input_tpid in
    All-append (IsMarked table.settings) (entry_rows table unmarked 0 (tried_order table.entries)) (unmatched_rows input)
    (entry_rows_marked table unmarked 0 (tried_order table.entries))
    (three_marked table.settings (unmatched_row input filter.NoTag) (unmatched_row input filter.OneTagDefault) (unmatched_row input filter.TwoTagDefault)
    refl refl refl)

pub marked_along : (table : Option Table) (unmarked : Option Unmarked) (settings : TableSettings) (rows : List Row) → settings ≡ settings_by table
    → rows ≡ rows_by table unmarked → All (IsMarked settings) rows
marked_along table unmarked settings rows p q = rw (p, q) all
  where
    all : All (IsMarked (settings_by table)) (rows_by table unmarked)
    all =
        let input = input_tpid_of table in
        All-append (IsMarked (settings_by table)) (fault_rows input) (table_rows table unmarked)
        (three_marked (settings_by table) runt_row (first_cut_row input) (second_cut_row input) refl refl refl) (table_marked table unmarked)

-- ---- how many

entry_rows-length : (table : Table) (unmarked : Option Unmarked) (number : ℕ) (places : List ℕ)
    → length (entry_rows table unmarked number places) ≡ length places
entry_rows-length table unmarked number [] = refl
entry_rows-length table unmarked number (place ∷ rest) = ap suc (entry_rows-length table unmarked (number + 1) rest)

few_rows : (table : Option Table) (unmarked : Option Unmarked) → IfSome table (λ table. length (tried_order table.entries) ≤ 128)
    → length (rows_by table unmarked) ≤ 134
few_rows None unmarked few = omega arith
few_rows (Some table) unmarked few =
    let entries = entry_rows table unmarked 0 (tried_order table.entries) in
    let unmatched = unmatched_rows table.settings.input_tpid in
    let all : length (entries ++ unmatched) ≡ length entries + 3 = length-append entries unmatched in
    let each = entry_rows-length table unmarked 0 (tried_order table.entries) in
    omega (arith, all, each)

pub few_along : (table : Option Table) (unmarked : Option Unmarked) (rows : List Row) → IfSome table (λ table. length (tried_order table.entries) ≤ 128)
    → rows ≡ rows_by table unmarked → length rows ≤ 134
few_along table unmarked rows few is = subst (λ (x : List Row). length x ≤ 134) (sym is) (few_rows table unmarked few)
