-- A frame is admitted exactly where its first row, of those of a filter and the one of all frames, isn't the last and has the frame's DSCP.
use Rattle.std.proofs.Common.{◌≡◌, ℕ, ◌+◌, ◌*◌, ◌<◌, ◌≤◌, ◌^◌, ◌==◌, Bool, true, false, ◌&&◌, ◌||◌, List, [], ◌∷◌, ◌++◌, ◌⊎◌, Option, Some, None, Ok, Err, inl, inr, arith, refl, ap, sym, length, drop, min, nat_lt, ◌∙◌}
use Rattle.std.specs.Prelude.{All, find}
use Rattle.std.specs.List.{list_any}
use Rattle.std.proofs.lemmas.Bool.{and_from, and_parts, eq-eqb, false≢true, le-leb, ltb-false, ltb-true}
use Rattle.std.proofs.lemmas.List.Folds.{find-append}
use Rattle.tag_view.specs.declared.fault.FrameFault.{FrameFault}
use Rattle.tag_view.specs.declared.fault.FrameFault.TheVariants.{Runt, CutTag}
use Rattle.tag_view.specs.Tag.{TagFields, is_tag_type}
use Rattle.tag_view.specs.Frame.{Reading, fault_of, frame_of, tag_at, type_at, with_tags}
use Rattle.tag_view.specs.Dscp.{dscp_of}
use Rattle.tag_view.proofs.Readings.{frame_refused, runt_frame}
use Rattle.mib_state.specs.Entities.{Entities}
use Rattle.frame_meaning.specs.Meaning.{input_tpid_of, table_at}
use Rattle.frame_rows.specs.declared.field.Field.TheVariants.{Length, FirstType, SecondType, ThirdType, FirstVid, SecondVid, FirstPriority, SecondPriority, FirstEligible, SecondEligible}
use Rattle.frame_rows.specs.declared.field.Values.{Values}
use Rattle.frame_rows.specs.declared.row.Row.{Row}
use Rattle.frame_rows.specs.Field.{fields, value_at, values_of}
use Rattle.frame_rows.specs.Row.{first_row, passes}
use Rattle.frame_rows.proofs.ChosenRows.{find_passes}
use Rattle.frame_rows.proofs.Means.{found_has}
use Rattle.frame_rows.proofs.Reading.{IsTagged, IsTwiceTagged, IsUntagged, tagged, twice_tagged, untagged}
use Rattle.frame_expectation.specs.declared.expectation.Expectation.{Expectation}
use Rattle.frame_expectation.specs.Filter.{asks_nothing, is_as, is_number, is_tag, is_there, is_type}
use Rattle.frame_expectation.specs.Expectation.{admits}
use Rattle.expectation_rows.specs.declared.filter.Asked.{Asked}
use Rattle.expectation_rows.specs.Rows.{filter_rows, here_rows, last_row, may_have_none, may_have_one, may_have_two, may_stand, none_row, none_rows, of_each, one_row, one_rows, rows_with_one, rows_with_two, two_row, two_rows}
use Rattle.expectation_rows.proofs.Meant.{IsMeant, Means, all_mean}
use Rattle.expectation_rows.proofs.Offered.{any_behind, any_first, any_of_each, any_offered, none_found}
use Rattle.expectation_rows.proofs.Tags.{stands, tag_has, third_asked, type_asked}

-- ---- what is admitted, by how a frame is read

pub admits_fault : (e : Entities) (expected : Expectation) (bytes : List ℕ) (fault : FrameFault)
    → frame_of (input_tpid_of (table_at e expected.port)) bytes ≡ Err fault → admits e expected bytes ≡ false
unfolding admits
admits_fault e expected bytes fault is = rw is refl

pub admits_frame : (e : Entities) (expected : Expectation) (bytes : List ℕ) (frame : Reading)
    → frame_of (input_tpid_of (table_at e expected.port)) bytes ≡ Ok frame → admits e expected bytes ≡ is_as expected.filter frame
unfolding admits
admits_frame e expected bytes frame is = rw is refl

-- ---- an admitted frame passes a row

abbrev passing : List ℕ → Row → Bool
passing bytes row = passes fields row (values_of bytes)

abbrev Passes : Asked → List ℕ → Type 0
Passes asked bytes = list_any (passing bytes) (filter_rows asked) ≡ true

none_passes : (asked : Asked) (bytes : List ℕ) → IsUntagged asked.settings.input_tpid bytes → is_as asked.filter (with_tags bytes 0 []) ≡ true
    → Passes asked bytes
none_passes asked bytes is h =
    let values = values_of bytes in
    let input = asked.settings.input_tpid in
    let filter = asked.filter in
    let number = and_parts (is_number filter.tags 0) _ h in
    let outer = and_parts (asks_nothing filter.outer) _ number.1 in
    let inner = and_parts (asks_nothing filter.inner) _ outer.1 in
    let behind = and_parts (is_type filter.ethertype (type_at 0 (drop 12 bytes))) _ inner.1 in
    let type : is_type filter.ethertype (value_at FirstType values) ≡ true = ap (is_type filter.ethertype) is.type ∙ behind.0 in
    let may : may_have_none asked ≡ true =
    rw (number.0, outer.0, inner.0) (stands input (value_at FirstType values) filter.ethertype is.passes.first type) in
    let pass : passing bytes (none_row asked) ≡ true =
    rw (is.passes.least, is.passes.most, type_asked input (value_at FirstType values) filter.ethertype is.passes.first, type) refl in
    any_first (passing bytes) (none_rows asked) (one_rows asked ++ two_rows asked)
    (any_offered (passing bytes) (may_have_none asked) (none_row asked) may pass)

one_passes : (asked : Asked) (bytes : List ℕ) → IsTagged asked.settings.input_tpid bytes
    → is_as asked.filter (with_tags bytes 1 (tag_at 0 (drop 12 bytes) ∷ [])) ≡ true → Passes asked bytes
one_passes asked bytes is h =
    let values = values_of bytes in
    let input = asked.settings.input_tpid in
    let filter = asked.filter in
    let tag = tag_at 0 (drop 12 bytes) in
    let tpid = value_at FirstType values in
    let number = and_parts (is_number filter.tags 1) _ h in
    let outer = and_parts (asks_nothing filter.outer) _ number.1 in
    let inner = and_parts (is_tag filter.inner tag) _ outer.1 in
    let behind = and_parts (is_type filter.ethertype (type_at 0 (drop 16 bytes))) _ inner.1 in
    let has = tag_has filter.inner tag tpid (value_at FirstVid values) (value_at FirstPriority values) (value_at FirstEligible values)
    is.passes.is_tag inner.0 in
    let type : is_type filter.ethertype (value_at SecondType values) ≡ true = ap (is_type filter.ethertype) is.type ∙ behind.0 in
    let may : may_have_one asked tpid ≡ true =
    rw (number.0, outer.0, has.number) (stands input (value_at SecondType values) filter.ethertype is.passes.second type) in
    let pass : passing bytes (one_row asked tpid) ≡ true =
    rw (
      is.passes.least,
      is.passes.most,
      eq-eqb tpid tpid refl,
      type_asked input (value_at SecondType values) filter.ethertype is.passes.second,
      type,
      has.fields.vid_asked,
      has.fields.priority_asked,
      has.fields.eligible_asked,
    ) refl in
    any_behind (passing bytes) (none_rows asked) (one_rows asked ++ two_rows asked)
    (any_first (passing bytes) (one_rows asked) (two_rows asked)
    (any_of_each (passing bytes) input tpid (rows_with_one asked) is.passes.first
    (any_offered (passing bytes) (may_have_one asked tpid) (one_row asked tpid) may pass)))

two_passes : (asked : Asked) (bytes : List ℕ) → IsTwiceTagged asked.settings.input_tpid bytes
    → is_as asked.filter (with_tags bytes 2 (tag_at 0 (drop 12 bytes) ∷ tag_at 4 (drop 12 bytes) ∷ [])) ≡ true → Passes asked bytes
two_passes asked bytes is h =
    let values = values_of bytes in
    let input = asked.settings.input_tpid in
    let filter = asked.filter in
    let first = tag_at 0 (drop 12 bytes) in
    let second = tag_at 4 (drop 12 bytes) in
    let tpid = value_at FirstType values in
    let tpid' = value_at SecondType values in
    let number = and_parts (is_number filter.tags 2) _ h in
    let outer = and_parts (is_tag filter.outer first) _ number.1 in
    let inner = and_parts (is_tag filter.inner second) _ outer.1 in
    let behind = and_parts (is_type filter.ethertype (type_at 0 (drop 20 bytes))) _ inner.1 in
    let has = tag_has filter.outer first tpid (value_at FirstVid values) (value_at FirstPriority values) (value_at FirstEligible values)
    is.passes.is_outer outer.0 in
    let has' = tag_has filter.inner second tpid' (value_at SecondVid values) (value_at SecondPriority values) (value_at SecondEligible values)
    is.passes.is_inner inner.0 in
    let type : is_type filter.ethertype (value_at ThirdType values) ≡ true = ap (is_type filter.ethertype) is.type ∙ behind.0 in
    let may : may_have_two asked tpid tpid' ≡ true = rw (number.0, has.number, has'.number) refl in
    let pass : passing bytes (two_row asked tpid tpid') ≡ true =
    rw (
      is.passes.least,
      is.passes.most,
      eq-eqb tpid tpid refl,
      eq-eqb tpid' tpid' refl,
      third_asked (value_at ThirdType values) filter.ethertype,
      type,
      has.fields.vid_asked,
      has'.fields.vid_asked,
      has.fields.priority_asked,
      has'.fields.priority_asked,
      has.fields.eligible_asked,
      has'.fields.eligible_asked,
    ) refl in
    any_behind (passing bytes) (none_rows asked) (one_rows asked ++ two_rows asked)
    (any_behind (passing bytes) (one_rows asked) (two_rows asked)
    (any_of_each (passing bytes) input tpid (λ outer. of_each input (rows_with_two asked outer)) is.passes.first
    (any_of_each (passing bytes) input tpid' (rows_with_two asked tpid) is.passes.second
    (any_offered (passing bytes) (may_have_two asked tpid tpid') (two_row asked tpid tpid') may pass))))

-- every frame that is admitted
admitted_passes : (e : Entities) (expected : Expectation) (asked : Asked) (bytes : List ℕ) → asked.filter ≡ expected.filter
    → asked.settings.input_tpid ≡ input_tpid_of (table_at e expected.port) → All (λ b. b < 2 ^ 8) bytes → admits e expected bytes ≡ true
    → Passes asked bytes
unfolding fault_of
admitted_passes e expected asked bytes same_filter same_input fits h =
    by_length (nat_lt (length bytes) 14) (is_tag_type input (type_at 12 bytes)) (nat_lt (length bytes) 18) (is_tag_type input (type_at 16 bytes))
    (nat_lt (length bytes) 22) refl refl refl refl refl
  where
    input : ℕ
    input = asked.settings.input_tpid

    no_fault : (fault : FrameFault) → fault_of input bytes ≡ Some fault → Passes asked bytes
    no_fault fault is =
        absurd (false≢true (sym (admits_fault e expected bytes fault
        (ap (λ (n : ℕ). frame_of n bytes) (sym same_input) ∙ frame_refused input bytes fault is)) ∙ h))

    is_asked : (frame : Reading) → frame_of input bytes ≡ Ok frame → is_as asked.filter frame ≡ true
    is_asked frame read =
        ap (λ (f : _). is_as f frame) same_filter
        ∙ sym (admits_frame e expected bytes frame (ap (λ (n : ℕ). frame_of n bytes) (sym same_input) ∙ read)) ∙ h

    by_length : (short tag cut tag' cut' : Bool) → nat_lt (length bytes) 14 ≡ short → is_tag_type input (type_at 12 bytes) ≡ tag
        → nat_lt (length bytes) 18 ≡ cut → is_tag_type input (type_at 16 bytes) ≡ tag' → nat_lt (length bytes) 22 ≡ cut' → Passes asked bytes
    by_length true tag cut tag' cut' p q r s t = no_fault Runt (runt_frame input bytes (ltb-true (length bytes) 14 p))
    by_length false false cut tag' cut' p q r s t =
        let is = untagged input bytes (ltb-false (length bytes) 14 p) q fits in
        none_passes asked bytes is (is_asked (with_tags bytes 0 []) is.read)
    by_length false true true tag' cut' p q r s t = no_fault CutTag (rw (p, q, r) refl)
    by_length false true false false cut' p q r s t =
        let is = tagged input bytes (ltb-false (length bytes) 18 r) q s fits in
        one_passes asked bytes is (is_asked (with_tags bytes 1 (tag_at 0 (drop 12 bytes) ∷ [])) is.read)
    by_length false true false true true p q r s t = no_fault CutTag (rw (p, q, r, s, t) refl)
    by_length false true false true false p q r s t =
        let is = twice_tagged input bytes (ltb-false (length bytes) 22 t) q s fits in
        two_passes asked bytes is (is_asked (with_tags bytes 2 (tag_at 0 (drop 12 bytes) ∷ tag_at 4 (drop 12 bytes) ∷ [])) is.read)

-- ---- the first row of every frame

-- it is the last, of a frame that isn't admitted
pub record IsLast (e : Entities) (expected : Expectation) (asked : Asked) (bytes : List ℕ) : Type 0 where
  pub is_first : first_row (here_rows asked) (values_of bytes) ≡ Some last_row
  pub not_admitted : admits e expected bytes ≡ false

-- or one of the filter, and then the DSCP decides
pub record IsOfFilter (e : Entities) (expected : Expectation) (asked : Asked) (bytes : List ℕ) : Type 0 where
  pub row : Row
  pub is_first : first_row (here_rows asked) (values_of bytes) ≡ Some row
  pub meant : IsMeant asked bytes row
  pub admitted : admits e expected bytes ≡ is_there asked.filter.dscp (dscp_of meant.frame.rest)

pub first_here : (e : Entities) (expected : Expectation) (asked : Asked) (bytes : List ℕ) → asked.filter ≡ expected.filter
    → asked.settings.input_tpid ≡ input_tpid_of (table_at e expected.port) → All (λ b. b < 2 ^ 8) bytes
    → IsLast e expected asked bytes ⊎ IsOfFilter e expected asked bytes
first_here e expected asked bytes same_filter same_input fits = by_found (find (passing bytes) (filter_rows asked)) refl
  where
    by_found : (found : Option Row) → find (passing bytes) (filter_rows asked) ≡ found
        → IsLast e expected asked bytes ⊎ IsOfFilter e expected asked bytes
    by_found None none =
        inl (record {
          is_first = find-append (passing bytes) (filter_rows asked) (last_row ∷ []) ∙ rw none refl;
          not_admitted = by_admitted (admits e expected bytes) refl;
        })
      where
        by_admitted : (b : Bool) → admits e expected bytes ≡ b → admits e expected bytes ≡ false
        by_admitted true is =
            absurd (false≢true (sym (none_found (passing bytes) (filter_rows asked) none)
            ∙ admitted_passes e expected asked bytes same_filter same_input fits is))
        by_admitted false is = is
    by_found (Some row) some =
        let meant : IsMeant asked bytes row =
        found_has (Means asked bytes) (passing bytes) (filter_rows asked) row (all_mean asked bytes fits) some
        (find_passes (passing bytes) (filter_rows asked) row some) in
        inr (record {
          row = row;
          is_first = find-append (passing bytes) (filter_rows asked) (last_row ∷ []) ∙ rw some refl;
          meant = meant;
          admitted =
              admits_frame e expected bytes meant.frame (ap (λ (n : ℕ). frame_of n bytes) (sym same_input) ∙ meant.read.read)
              ∙ ap (λ (f : _). is_as f meant.frame) (sym same_filter) ∙ meant.as_asked;
        })
