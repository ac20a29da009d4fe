-- The class of every frame is that of the first row that passes.
use Rattle.std.proofs.Common.{◌≡◌, ℕ, ◌+◌, ◌==◌, Bool, true, false, ◌&&◌, List, [], ◌∷◌, ◌++◌, Option, Some, None, arith, refl, ap, sym, subst, length, ◌∙◌}
use Rattle.std.specs.Prelude.{All, find, map, ok_or}
use Rattle.std.specs.List.{position}
use Rattle.std.specs.Option.{option_map, option_or}
use Rattle.std.proofs.lemmas.Bool.{eqb-true}
use Rattle.std.proofs.lemmas.List.Elements.{All-head, All-tail}
use Rattle.std.proofs.lemmas.List.Folds.{find-append}
use Rattle.tag_view.specs.Tag.{TagFields, customer_tpid}
use Rattle.tag_view.specs.Frame.{Reading, type_at}
use Rattle.tag_view.specs.Dscp.{dscp_of}
use Rattle.vlan_rule.specs.declared.filter.EthertypeFilter.TheVariants as ethertype
use Rattle.vlan_rule.specs.declared.filter.Filter.{Filter}
use Rattle.vlan_rule.specs.declared.filter.Filter.TheVariants as filter
use Rattle.vlan_rule.specs.Choice.{are_tags, choice, entry_at, has_type, is_inner, is_outer, matches}
use Rattle.vlan_rule.specs.Meaning.{ethertype_of, filter_of, treatment_fits, treatment_of}
use Rattle.treatment.specs.Treatment.{treated, treated_by}
use Rattle.pmapper.specs.Mapper.{Unmarked}
use Rattle.mib_state.specs.Entities.{Entities}
use Rattle.frame_meaning.specs.declared.reason.Reason.TheVariants.{RuleDiscard}
use Rattle.frame_meaning.specs.Meaning.{Table, entry_for, found_then, gem_port_at, mapper_at, tags_by, unmarked_at}
use Rattle.explain.specs.Order.{tried_order}
use Rattle.explain.proofs.Orders.{chosen_first}
use Rattle.frame_rows.specs.declared.class.Use.{Use}
use Rattle.frame_rows.specs.declared.class.Use.TheVariants.{NoTable, Entry}
use Rattle.frame_rows.specs.declared.class.Ending.{Ending}
use Rattle.frame_rows.specs.declared.class.FrameClass.{FrameClass}
use Rattle.frame_rows.specs.declared.field.Values.{Values}
use Rattle.frame_rows.specs.declared.row.Row.{Row}
use Rattle.frame_rows.specs.Treatments.{Fits, TreatmentsFit}
use Rattle.frame_rows.specs.Use.{use_of_number, used_number}
use Rattle.frame_rows.specs.Field.{fields, values_of}
use Rattle.frame_rows.specs.Row.{class_by, class_of_row, ending_of, first_row, passes, tags_of}
use Rattle.frame_rows.specs.Rows.{by_count, ending_by, endings_at, entry_row, entry_rows, fault_rows, kept_ends, kept_row, kept_rows, treated_ends, unmatched_row, unmatched_rows}
use Rattle.frame_rows.proofs.ChosenRows.{PassLike, find_passes, none_row, some_row}
use Rattle.frame_rows.proofs.Endings.{kept_ending, treated_ending}
use Rattle.frame_rows.proofs.Faults.{IsRead}
use Rattle.frame_rows.proofs.Priorities.{TagsAre}

with_parts : Use → Ending → FrameClass
with_parts used ending = record { used = used; ending = ending }

-- ---- rows of each number of tags

-- the filter that admits all frames with these tags
pub filter_for : List TagFields → Filter
filter_for [] = filter.NoTag
filter_for (first ∷ []) = filter.OneTagDefault
filter_for (first ∷ second ∷ rest) = filter.TwoTagDefault

pub count_for : (tags : List TagFields) (values : Values) → TagsAre tags values → tags_of (filter_for tags) ≡ length tags
unfolding filter_for
count_for [] values h = refl
count_for (first ∷ []) values h = refl
count_for (first ∷ second ∷ []) values h = refl
count_for (first ∷ second ∷ third ∷ rest) values h = absurd h

-- the first of the rows of each number is that of the frame's
picked : (row_of : Filter → Row) (input : ℕ) (values : Values) (tags : List TagFields) → TagsAre tags values
    → ((f : Filter) → passes fields (row_of f) values ≡ (are_tags input f tags && true))
    → first_row (map row_of by_count) values ≡ Some (row_of (filter_for tags))
unfolding filter_for
picked row_of input values [] h pass = rw (pass filter.NoTag) refl
picked row_of input values (first ∷ []) h pass = rw (pass filter.NoTag, pass filter.OneTagDefault) refl
picked row_of input values (first ∷ second ∷ []) h pass = rw (pass filter.NoTag, pass filter.OneTagDefault, pass filter.TwoTagDefault) refl
picked row_of input values (first ∷ second ∷ third ∷ rest) h pass = absurd h

-- ---- a port without a table

pub kept_first : (unmarked : Option Unmarked) (bytes : List ℕ) (frame : Reading) → IsRead customer_tpid bytes frame
    → first_row (fault_rows customer_tpid ++ kept_rows unmarked) (values_of bytes) ≡ Some (kept_row unmarked (filter_for frame.tags))
kept_first unmarked bytes frame is =
    is.no_fault (kept_rows unmarked)
    ∙ picked (kept_row unmarked) customer_tpid (values_of bytes) frame.tags is.describes.tags_are (λ f. is.pass f ethertype.Any)

pub kept_class : (e : Entities) (port : ℕ) (bytes : List ℕ) (frame : Reading) → IsRead customer_tpid bytes frame
    → class_by (endings_at e port) (fault_rows customer_tpid ++ kept_rows (option_map unmarked_at (mapper_at e port))) (values_of bytes)
    ≡ Some (record { used = NoTable; ending = ending_by (gem_port_at e port frame.tags (dscp_of frame.rest)) })
unfolding with_parts
kept_class e port bytes frame is =
    let unmarked = option_map unmarked_at (mapper_at e port) in
    let count = count_for frame.tags (values_of bytes) is.describes.tags_are in
    ap (option_map (λ row. class_of_row (endings_at e port) row (values_of bytes))) (kept_first unmarked bytes frame is)
    ∙ ap (λ (ending : Ending). Some (with_parts NoTable ending))
    (ap (λ (n : ℕ). ending_of (endings_at e port) (kept_ends unmarked n) (values_of bytes)) count
    ∙ kept_ending e port frame.tags (dscp_of frame.rest) (values_of bytes) is.describes)

-- ---- a port with a table

-- the tags that are counted
counted : (input : ℕ) (f : Filter) (tags : List TagFields) → are_tags input f tags ≡ true → tags_of f ≡ length tags
counted input filter.NoTag tags h = sym (eqb-true (length tags) 0 h)
counted input filter.OneTagDefault tags h = sym (eqb-true (length tags) 1 h)
counted input (filter.OneTag f) tags h = sym (eqb-true (length tags) 1 (and_left (length tags == 1) (is_inner input f tags) h))
  where
    and_left : (a b : Bool) → (a && b) ≡ true → a ≡ true
    and_left true b h = refl
    and_left false b h = h
counted input filter.TwoTagDefault tags h = sym (eqb-true (length tags) 2 h)
counted input (filter.TwoTag f g) tags h = sym (eqb-true (length tags) 2 (and_left (length tags == 2) (is_outer input f tags && is_inner input g tags) h))
  where
    and_left : (a b : Bool) → (a && b) ≡ true → a ≡ true
    and_left true b h = refl
    and_left false b h = h

first_and : (a b : Bool) → (a && b) ≡ true → a ≡ true
first_and true b h = refl
first_and false b h = h

-- the rows of a table's entries pass where the entries match
pass_like : (table : Table) (unmarked : Option Unmarked) (bytes : List ℕ) (frame : Reading) → IsRead table.settings.input_tpid bytes frame
    → PassLike table unmarked (values_of bytes) (matches table.settings.input_tpid frame.tags (type_at 0 frame.rest))
unfolding matches
pass_like table unmarked bytes frame is number entry = is.pass (filter_of entry) (ethertype_of entry)

-- an entry that matches has as many tags as the frame
match_counts : (input : ℕ) (tags : List TagFields) (type : ℕ) (entry : List ℕ) → matches input tags type entry ≡ true
    → tags_of (filter_of entry) ≡ length tags
unfolding matches
match_counts input tags type entry h =
    counted input (filter_of entry) tags (first_and (are_tags input (filter_of entry) tags) (has_type (ethertype_of entry) type) h)

-- the class that a table's entries give a frame
table_means : Entities → ℕ → Table → Reading → FrameClass
table_means e port table frame =
    record {
      used = use_of_number (used_number table frame.tags (type_at 0 frame.rest));
      ending = ending_by (found_then (tags_by table frame) (λ tags. gem_port_at e port tags (dscp_of frame.rest)));
    }

-- the rows of a port with this table
abbrev pub all_rows : Table → Option Unmarked → List Row
all_rows table unmarked =
    fault_rows table.settings.input_tpid ++ (entry_rows table unmarked 0 (tried_order table.entries) ++ unmatched_rows table.settings.input_tpid)

-- behind the rows of faults those of entries are looked at, and then those of frames that no entry matches
behind_faults : (table : Table) (unmarked : Option Unmarked) (bytes : List ℕ) (frame : Reading) → IsRead table.settings.input_tpid bytes frame
    → first_row (all_rows table unmarked) (values_of bytes)
    ≡ option_or (first_row (entry_rows table unmarked 0 (tried_order table.entries)) (values_of bytes))
    (first_row (unmatched_rows table.settings.input_tpid) (values_of bytes))
behind_faults table unmarked bytes frame is =
    is.no_fault (entry_rows table unmarked 0 (tried_order table.entries) ++ unmatched_rows table.settings.input_tpid)
    ∙ find-append (λ row. passes fields row (values_of bytes)) (entry_rows table unmarked 0 (tried_order table.entries))
    (unmatched_rows table.settings.input_tpid)

-- no entry is chosen
pub unmatched_first : (table : Table) (unmarked : Option Unmarked) (bytes : List ℕ) (frame : Reading) → IsRead table.settings.input_tpid bytes frame
    → choice (matches table.settings.input_tpid frame.tags (type_at 0 frame.rest)) table.entries ≡ None
    → first_row (all_rows table unmarked) (values_of bytes) ≡ Some (unmatched_row table.settings.input_tpid (filter_for frame.tags))
unmatched_first table unmarked bytes frame is none =
    let input = table.settings.input_tpid in
    let test = matches input frame.tags (type_at 0 frame.rest) in
    let none_found = sym (chosen_first test table.entries) ∙ none in
    let no_row = none_row table unmarked (values_of bytes) test 0 (tried_order table.entries) (pass_like table unmarked bytes frame is) none_found in
    let last = picked (unmatched_row input) input (values_of bytes) frame.tags is.describes.tags_are (λ f. is.pass f ethertype.Any) in
    behind_faults table unmarked bytes frame is
    ∙ ap (λ (first : Option Row). option_or first (first_row (unmatched_rows input) (values_of bytes))) no_row
    ∙ last

unmatched_class : (e : Entities) (port : ℕ) (table : Table) (bytes : List ℕ) (frame : Reading) → IsRead table.settings.input_tpid bytes frame
    → choice (matches table.settings.input_tpid frame.tags (type_at 0 frame.rest)) table.entries ≡ None
    → class_by (endings_at e port) (all_rows table (option_map unmarked_at (mapper_at e port))) (values_of bytes) ≡ Some (table_means e port table frame)
unfolding table_means tags_by entry_for
unmatched_class e port table bytes frame is none =
    ap (option_map (λ row. class_of_row (endings_at e port) row (values_of bytes)))
    (unmatched_first table (option_map unmarked_at (mapper_at e port)) bytes frame is none)
    ∙ rw none refl

-- what an entry that is chosen means
chosen_means : (e : Entities) (port : ℕ) (table : Table) (frame : Reading) (place at : ℕ)
    → choice (matches table.settings.input_tpid frame.tags (type_at 0 frame.rest)) table.entries ≡ Some place
    → position (λ tried. tried == place) (tried_order table.entries) ≡ Some at
    → with_parts (Entry at)
    (ending_by (found_then (ok_or (treated_by (treatment_of (entry_at table.entries place)) table.settings frame.tags (dscp_of frame.rest)) RuleDiscard)
    (λ out. gem_port_at e port out (dscp_of frame.rest))))
    ≡ table_means e port table frame
unfolding table_means tags_by entry_for treated with_parts
chosen_means e port table frame place at chosen is_at = rw (chosen, is_at) refl

-- an entry is chosen
pub record IsChosenRow (table : Table) (unmarked : Option Unmarked) (bytes : List ℕ) (frame : Reading) (place : ℕ) : Type 0 where
  pub at : ℕ
  pub is_at : position (λ tried. tried == place) (tried_order table.entries) ≡ Some at
  pub is_row : first_row (all_rows table unmarked) (values_of bytes) ≡ Some (entry_row table unmarked at (entry_at table.entries place))
  pub count : tags_of (filter_of (entry_at table.entries place)) ≡ length frame.tags

pub matched_first : (table : Table) (unmarked : Option Unmarked) (bytes : List ℕ) (frame : Reading) (place : ℕ)
    → IsRead table.settings.input_tpid bytes frame
    → choice (matches table.settings.input_tpid frame.tags (type_at 0 frame.rest)) table.entries ≡ Some place
    → IsChosenRow table unmarked bytes frame place
matched_first table unmarked bytes frame place is chosen =
    let input = table.settings.input_tpid in
    let test = matches input frame.tags (type_at 0 frame.rest) in
    let entry = entry_at table.entries place in
    let found = sym (chosen_first test table.entries) ∙ chosen in
    let row = some_row table unmarked (values_of bytes) test 0 (tried_order table.entries) place (pass_like table unmarked bytes frame is) found in
    let matching = find_passes (λ place. test (entry_at table.entries place)) (tried_order table.entries) place found in
    let number : 0 + row.at ≡ row.at = omega arith in
    record {
      at = row.at;
      is_at = row.is_at;
      is_row =
          behind_faults table unmarked bytes frame is
          ∙ ap (λ (first : Option Row). option_or first (first_row (unmatched_rows input) (values_of bytes))) row.is_row
          ∙ ap (λ (n : ℕ). Some (entry_row table unmarked n entry)) number;
      count = match_counts input frame.tags (type_at 0 frame.rest) entry matching;
    }

matched_class : (e : Entities) (port : ℕ) (table : Table) (bytes : List ℕ) (frame : Reading) (place : ℕ) → IsRead table.settings.input_tpid bytes frame
    → choice (matches table.settings.input_tpid frame.tags (type_at 0 frame.rest)) table.entries ≡ Some place
    → treatment_fits (treatment_of (entry_at table.entries place)) ≡ true
    → class_by (endings_at e port) (all_rows table (option_map unmarked_at (mapper_at e port))) (values_of bytes) ≡ Some (table_means e port table frame)
unfolding table_means tags_by entry_for treated with_parts
matched_class e port table bytes frame place is chosen fits =
    let unmarked = option_map unmarked_at (mapper_at e port) in
    let entry = entry_at table.entries place in
    let row = matched_first table unmarked bytes frame place is chosen in
    let ending = ap (λ (n : ℕ). ending_of (endings_at e port) (treated_ends (treatment_of entry) table.settings unmarked n) (values_of bytes)) row.count
    ∙ treated_ending e port (treatment_of entry) table.settings frame.tags (dscp_of frame.rest) (values_of bytes) fits is.describes in
    ap (option_map (λ row. class_of_row (endings_at e port) row (values_of bytes))) row.is_row
    ∙ ap (λ (x : Ending). Some (with_parts (Entry row.at) x)) ending
    ∙ ap (λ (c : FrameClass). Some c) (chosen_means e port table frame place row.at chosen row.is_at)

-- ---- every frame

-- what holds of all holds of what is found
pub found_has : {X : Type 0} (P : X → Type 0) (p : X → Bool) (xs : List X) (found : X) → All P xs → find p xs ≡ Some found → P found
found_has {X} P p [] found all is = absurd (none_some is)
  where
    none_some : None ≡ Some found → ⊥
    none_some e = cc
found_has {X} P p (x ∷ xs) found all is = by_first (p x) refl is (found_has P p xs found (All-tail P x xs all))
  where
    some_same : Some x ≡ Some found → x ≡ found
    some_same e = cc

    by_first : (b : Bool) → p x ≡ b → find p (x ∷ xs) ≡ Some found → (find p xs ≡ Some found → P found) → P found
    by_first true has is others = subst P (some_same (rw has at is)) (All-head P x xs all)
    by_first false has is others = others (rw has at is)

-- what the entry that is chosen adds fits
pub chosen_fits : (test : List ℕ → Bool) (table : Table) (place : ℕ) → TreatmentsFit table.entries → choice test table.entries ≡ Some place
    → Fits table.entries place
chosen_fits test table place fits chosen =
    found_has (Fits table.entries) (λ place. test (entry_at table.entries place)) (tried_order table.entries) place fits
    (sym (chosen_first test table.entries) ∙ chosen)

pub table_class : (e : Entities) (port : ℕ) (table : Table) (bytes : List ℕ) (frame : Reading) → TreatmentsFit table.entries
    → IsRead table.settings.input_tpid bytes frame
    → class_by (endings_at e port) (all_rows table (option_map unmarked_at (mapper_at e port))) (values_of bytes)
    ≡ Some (record {
      used = use_of_number (used_number table frame.tags (type_at 0 frame.rest));
      ending = ending_by (found_then (tags_by table frame) (λ tags. gem_port_at e port tags (dscp_of frame.rest)));
    })
unfolding table_means
table_class e port table bytes frame fits is = by_choice (choice test table.entries) refl
  where
    test : List ℕ → Bool
    test = matches table.settings.input_tpid frame.tags (type_at 0 frame.rest)

    by_choice : (chosen : Option ℕ) → choice test table.entries ≡ chosen
        → class_by (endings_at e port) (all_rows table (option_map unmarked_at (mapper_at e port))) (values_of bytes)
        ≡ Some (table_means e port table frame)
    by_choice None none = unmatched_class e port table bytes frame is none
    by_choice (Some place) chosen = matched_class e port table bytes frame place is chosen (chosen_fits test table place fits chosen)
