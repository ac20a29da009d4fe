-- What three lists of rows see otherwise decides an expectation, of every frame.
use Rattle.std.proofs.Common.{◌≡◌, ℕ, ◌+◌, ◌*◌, ◌/◌, ◌%◌, ◌<◌, ◌≤◌, ◌^◌, ◌==◌, ◌⊎◌, ⊎_elim, Bool, true, false, not, ◌&&◌, List, [], ◌∷◌, Option, Some, None, Ok, if◌then◌else◌, arith, refl, ap, sym, subst, length, map, ◌∙◌}
use Rattle.std.specs.Prelude.{All, IsTrue, nat_lt, slice_index_or}
use Rattle.std.specs.Str.{bytes_eq}
use Rattle.std.specs.Option.{option_map}
use Rattle.std.proofs.lemmas.Bool.{false≢true, true≢false}
use Rattle.std.proofs.Math.ListN.{get_or-map}
use Rattle.tag_view.specs.Tag.{IsInRange, TagFields}
use Rattle.tag_view.specs.Frame.{Reading, frame_of, frame_bytes, reading_of}
use Rattle.tag_view.specs.Dscp.{dscp_of, group_of}
use Rattle.vlan_rule.specs.declared.settings.TableSettings.{TableSettings}
use Rattle.vlan_rule.specs.declared.treatment.Retag.{Retag}
use Rattle.treatment.specs.Treatment.{inner_of, outer_of}
use Rattle.mib_state.specs.Entities.{Entities}
use Rattle.frame_meaning.specs.declared.reason.Reason.TheVariants.{NoMapper}
use Rattle.frame_meaning.specs.Meaning.{input_tpid_of, table_at}
use Rattle.frame_rows.specs.declared.class.Ending.{Ending}
use Rattle.frame_rows.specs.declared.class.Ending.TheVariants.{Gem, Dropped}
use Rattle.frame_rows.specs.declared.class.FrameClass.{FrameClass}
use Rattle.frame_rows.specs.declared.class.Use.TheVariants.{Entry}
use Rattle.frame_rows.specs.declared.field.Values.{Values}
use Rattle.frame_rows.specs.declared.row.Ends.{Ends}
use Rattle.frame_rows.specs.declared.row.Ends.TheVariants as ends
use Rattle.frame_rows.specs.declared.row.Row.{Row}
use Rattle.frame_rows.specs.Class.{class_of}
use Rattle.frame_rows.specs.Field.{value_at, values_of, vid_behind, type_behind}
use Rattle.frame_rows.specs.Fits.{row_fits}
use Rattle.frame_rows.specs.Row.{class_by, class_of_row, ending_of, first_row}
use Rattle.frame_rows.specs.Rows.{IsMarked, Mean, settings_at, settings_by}
use Rattle.frame_rows.specs.Row.{keep}
use Rattle.frame_rows.specs.Sight.{AreSeen, Side, endings_apart, seen_apart, sent_by, sight_by_ending, sight_of, tags_apart}
use Rattle.frame_rows.specs.Source.{dscp_behind, dscp_in, mapped, packet_of}
use Rattle.frame_rows.specs.declared.field.Field.TheVariants.{Length}
use Rattle.frame_rows.specs.declared.source.Packet.{Packet}
use Rattle.frame_rows.specs.declared.source.Packet.TheVariants.{Ipv4, Ipv6, Other}
use Rattle.frame_rows.proofs.SeenApart.{FirstRow, first_there, row_is, seen_by, sent_tells}
use Rattle.frame_rows.proofs.Slots.{slots_in_range}
use Rattle.frame_rows.proofs.Written.{IsFitting}
use Rattle.frame_expectation.specs.declared.expectation.Expectation.{Expectation}
use Rattle.frame_expectation.specs.declared.wanted.WantedEnding.{WantedEnding}
use Rattle.frame_expectation.specs.declared.wanted.WantedRetag.{WantedRetag}
use Rattle.frame_expectation.specs.declared.wanted.WantedTreatment.{WantedTreatment}
use Rattle.frame_expectation.specs.declared.wanted.WantedTreatment.TheVariants as treatment
use Rattle.frame_expectation.specs.Expectation.{admits, meets}
use Rattle.frame_expectation.specs.Filter.{is_there}
use Rattle.frame_expectation.specs.Wanted as wanting
use Rattle.frame_expectation.specs.Wanted.{bytes_wanted, tags_wanted}
use Rattle.frame_expectation.proofs.Leaving.{read_is}
use Rattle.expectation_rows.specs.declared.filter.Asked.{Asked}
use Rattle.expectation_rows.specs.Decision.{AreRows, Decide, HaveClasses, IsDecided, counted_rows, is_any, is_failing, is_shown, is_wanted, marked, plain}
use Rattle.expectation_rows.specs.Only.{only_map}
use Rattle.expectation_rows.specs.Rows.{endings, filter_row, here_rows, last_row, priority_for, retag_or_keep, source_by}
use Rattle.expectation_rows.specs.Wanted.{retag_for}
use Rattle.expectation_rows.proofs.Admitted.{IsLast, IsOfFilter, first_here}
use Rattle.expectation_rows.proofs.Fitting.{here_few, here_fits, here_marked, last_fits, last_marked}
use Rattle.expectation_rows.proofs.Meant.{IsMeant}
use Rattle.expectation_rows.proofs.Meeting.{any_apart, compared_apart, leaving_by, meets_is, met_by, same_input, same_settings, tells_not, unwritten_apart, wanted_is}
use Rattle.expectation_rows.proofs.Counted.{class_counted, counted, counted_ends, counted_few, counted_fits, counted_marked, counted_same, first_counted}
use Rattle.expectation_rows.proofs.OnlyMap.{only_group}
use Rattle.expectation_rows.proofs.Unwritten.{never_written}
use Rattle.expectation_rows.proofs.Wanting.{sent_wanted}

-- ---- the rows of a port

pub record IsPort (e : Entities) (port : ℕ) (side : Side) : Type 0 where
  pub mean : Mean e port side.endings side.rows
  pub seen : AreSeen e port side
  pub fit : All (λ row. IsTrue (row_fits side.settings.input_tpid row)) side.rows
  pub marked : All (IsMarked side.settings) side.rows
  pub output : side.settings.output_tpid < 2 ^ 16
  pub few : length side.rows ≤ 134
  pub settings : side.settings ≡ settings_at e port

-- ---- how rows of a filter end

abbrev gem_for : Option Retag → ℕ
gem_for (Some retag) = 0
gem_for None = 2

ends_in : (retag : Option Retag) → slice_index_or endings (priority_for retag) (Dropped NoMapper) ≡ Gem (gem_for retag)
ends_in (Some retag) = refl
ends_in None = refl

low_priority : (retag : Option Retag) → priority_for retag < 8
low_priority (Some retag) = omega arith
low_priority None = omega arith

small_dscp : (tags : ℕ) (values : Values) (dscp : ℕ) → dscp_behind tags values ≡ Some dscp → dscp < 64
small_dscp tags values dscp is = by_length (nat_lt (value_at Length values) (16 + 4 * tags)) refl
  where
    small_in : (packet : Packet) (bits : ℕ) → dscp_in packet bits ≡ Some dscp → dscp < 64
    small_in Ipv4 bits e = let same : bits / 2 ^ 2 % 2 ^ 6 ≡ dscp = cc in omega arith
    small_in Ipv6 bits e = let same : bits / 2 ^ 6 % 2 ^ 6 ≡ dscp = cc in omega arith
    small_in Other bits e = cc

    by_length : (b : Bool) → nat_lt (value_at Length values) (16 + 4 * tags) ≡ b → dscp < 64
    by_length true short = absurd (never (rw short at is))
      where
        never : None ≡ Some dscp → ⊥
        never e = cc
    by_length false long = small_in (packet_of (value_at (type_behind tags) values)) (value_at (vid_behind tags) values) (rw long at is)

ending_here : (dscp found : Option ℕ) (tags : ℕ) (values : Values) (retag : Option Retag) → dscp_behind tags values ≡ found
    → ending_of endings (ends.ByPriority (source_by dscp tags (priority_for retag))) values
    ≡ (if is_there dscp found then Gem (gem_for retag) else Dropped NoMapper)
ending_here None found tags values retag is = ends_in retag
ending_here (Some dscp) None tags values retag is = rw is refl
ending_here (Some dscp) (Some found) tags values retag is =
    ap (λ (n : ℕ). slice_index_or endings n (Dropped NoMapper)) mapped_is ∙ by_same (found == dscp)
  where
    mapped_is : mapped (record { tags = tags; map = record { 0 = only_map dscp (priority_for retag) }; without = 0 }) (dscp_behind tags values)
        ≡ (if found == dscp then priority_for retag else 0)
    mapped_is = rw is (only_group dscp (priority_for retag) found (low_priority retag) (small_dscp tags values found is))

    by_same : (b : Bool) → slice_index_or endings (if b then priority_for retag else 0) (Dropped NoMapper)
        ≡ (if b then Gem (gem_for retag) else Dropped NoMapper)
    by_same true = ends_in retag
    by_same false = refl

-- ---- endings that are marked

ending_marked : (by : WantedEnding) (some : List Ending) (how : Ends) (values : Values)
    → ending_of (map (marked by) some) how values ≡ marked by (ending_of some how values)
ending_marked by some (ends.Dropped reason) values = refl
ending_marked by some (ends.ByPriority source) values = get_or-map (marked by) some _ (Dropped NoMapper)

-- ---- what rows see

apart_by : (one other : Side) (values : Values) (row row' : Row) (end end' : Ending) → first_row one.rows values ≡ Some row
    → first_row other.rows values ≡ Some row' → ending_of one.endings row.ends values ≡ end → ending_of other.endings row'.ends values ≡ end'
    → seen_apart false one other values ≡ endings_apart false end end' (tags_apart one other values row row')
apart_by one other values row row' end end' p q r s = rw (p, q, r, s) refl

class_at : (some : List Ending) (rows : List Row) (values : Values) (row : Row) (end : Ending) → first_row rows values ≡ Some row
    → ending_of some row.ends values ≡ end → class_by some rows values ≡ Some (record { used = row.used; ending = end })
class_at some rows values row end p q = rw (p, q) refl

and_true : (b : Bool) → (b && true) ≡ b
and_true true = refl
and_true false = refl

-- ---- three lists

abbrev pub before_of : Expectation → Side → Side
before_of expected side = record side { endings = map (marked expected.ending) side.endings; rows = counted_rows expected.treatment side.rows }

abbrev pub asked_of : Expectation → Side → Asked
asked_of expected side = record { filter = expected.filter; treatment = expected.treatment; settings = side.settings }

abbrev pub here_of : Expectation → Side → Side
here_of expected side = record { settings = side.settings; endings = endings; rows = here_rows (asked_of expected side) }

abbrev pub after_of : Side → Side
after_of side = record { settings = side.settings; endings = endings; rows = last_row ∷ [] }

-- ---- an admitted frame

-- by its first row at the port, and its first of the filter's
record IsAdmitted (e : Entities) (expected : Expectation) (side : Side) (bytes : List ℕ) : Type 0 where
  pub port : IsPort e expected.port side
  pub fits : All (λ b. b < 2 ^ 8) bytes
  pub first : FirstRow side bytes
  pub row : Row
  pub is_first : first_row (here_rows (asked_of expected side)) (values_of bytes) ≡ Some row
  pub meant : IsMeant (asked_of expected side) bytes row
  pub ends : ending_of endings row.ends (values_of bytes)
      ≡ Gem (gem_for (retag_for expected.treatment side.settings (outer_of meant.frame.tags).tpid (inner_of meant.frame.tags).tpid))

input_is : (e : Entities) (expected : Expectation) (side : Side) → IsPort e expected.port side
    → side.settings.input_tpid ≡ input_tpid_of (table_at e expected.port)
input_is e expected side port = ap (λ (s : TableSettings). s.input_tpid) port.settings ∙ same_input (table_at e expected.port)

-- what is wanted of it
wanted_at : (e : Entities) (expected : Expectation) (side : Side) (bytes : List ℕ) (c : IsAdmitted e expected side bytes)
    → bytes_wanted expected.treatment (wanting.settings_by (table_at e expected.port)) bytes (reading_of (input_tpid_of (table_at e expected.port)) bytes)
    ≡ bytes_wanted expected.treatment side.settings bytes c.meant.frame
wanted_at e expected side bytes c =
    let table = table_at e expected.port in
    let input = input_is e expected side c.port in
    let settings : wanting.settings_by table ≡ side.settings = same_settings table ∙ sym c.port.settings in
    let read : reading_of (input_tpid_of table) bytes ≡ c.meant.frame =
    read_is (input_tpid_of table) bytes c.meant.frame (ap (λ (n : ℕ). frame_of n bytes) (sym input) ∙ c.meant.read.read) in
    ap (λ (s : TableSettings). bytes_wanted expected.treatment s bytes (reading_of (input_tpid_of table) bytes)) settings
    ∙ ap (bytes_wanted expected.treatment side.settings bytes) read

-- how it ends at the port, and the bytes with which it leaves
abbrev end_at : (e : Entities) (expected : Expectation) (side : Side) (bytes : List ℕ) → IsAdmitted e expected side bytes → Ending
end_at e expected side bytes c = ending_of side.endings c.first.row.ends (values_of bytes)

abbrev sent_at : (e : Entities) (expected : Expectation) (side : Side) (bytes : List ℕ) → IsAdmitted e expected side bytes → List ℕ
sent_at e expected side bytes c = sent_by side.settings c.first.row bytes

abbrev tags_at : (e : Entities) (expected : Expectation) (side : Side) (bytes : List ℕ) → IsAdmitted e expected side bytes → Bool
tags_at e expected side bytes c =
    tags_apart (here_of expected side) (before_of expected side) (values_of bytes) c.row (counted expected.treatment c.first.row)

meets_at : (e : Entities) (expected : Expectation) (side : Side) (bytes : List ℕ) (c : IsAdmitted e expected side bytes) (wanted : Option (List ℕ))
    → bytes_wanted expected.treatment side.settings bytes c.meant.frame ≡ wanted
    → meets e expected bytes ≡ met_by expected.ending wanted (end_at e expected side bytes c) (sent_at e expected side bytes c)
meets_at e expected side bytes c wanted is =
    meets_is e expected bytes (sent_at e expected side bytes c) (end_at e expected side bytes c) wanted (wanted_at e expected side bytes c ∙ is)
    (seen_by e expected.port side bytes c.first c.port.seen c.fits)

-- ---- whether it is shown

record Tell (apart failing met : Bool) : Type 0 where
  pub unmet : met ≡ false → apart ≡ true
  pub failing_is : apart ≡ true → failing ≡ not met

-- where its bytes are wanted it is shown exactly if it doesn't meet the expectation
apart_tells : (apart failing met : Bool) → apart ≡ not met → failing ≡ true → Tell apart failing met
apart_tells apart failing met is fails =
    record { unmet = λ h. is ∙ ap not h; failing_is = λ h. fails ∙ sym h ∙ is }

abbrev Told : (e : Entities) (expected : Expectation) (side : Side) (bytes : List ℕ) → IsAdmitted e expected side bytes → Option Retag → Type 0
Told e expected side bytes c retag =
    Tell (endings_apart false (Gem (gem_for retag)) (marked expected.ending (end_at e expected side bytes c)) (tags_at e expected side bytes c))
    (is_failing expected (marked expected.ending (end_at e expected side bytes c))) (meets e expected bytes)

abbrev retag_at : (e : Entities) (expected : Expectation) (side : Side) (bytes : List ℕ) → IsAdmitted e expected side bytes → Option Retag
retag_at e expected side bytes c = retag_for expected.treatment side.settings (outer_of c.meant.frame.tags).tpid (inner_of c.meant.frame.tags).tpid

-- any bytes
any_told : (e : Entities) (expected : Expectation) (side : Side) (bytes : List ℕ) (c : IsAdmitted e expected side bytes)
    → expected.treatment ≡ treatment.Any → Told e expected side bytes c (Some keep)
any_told e expected side bytes c is =
    let met = meets_at e expected side bytes c None (ap (λ (by : WantedTreatment). bytes_wanted by side.settings bytes c.meant.frame) is) in
    record {
      unmet = λ h.
          any_apart expected.ending (end_at e expected side bytes c) (tags_at e expected side bytes c) (sent_at e expected side bytes c) (sym met ∙ h);
      failing_is = λ h.
          ap (λ (by : WantedTreatment). not (is_any by && is_wanted expected.ending (marked expected.ending (end_at e expected side bytes c)))) is
          ∙ ap not (wanted_is expected.ending (end_at e expected side bytes c) (sent_at e expected side bytes c) ∙ sym met);
    }

fails_always : (expected : Expectation) (end : Ending) → is_any expected.treatment ≡ false → is_failing expected end ≡ true
fails_always expected end is = rw is refl

-- the first row of the filter
record HereRow (side : Side) (bytes : List ℕ) (row : Row) : Type 0 where
  pub fit : IsFitting row
  pub long : (gem : ℕ) → ending_of side.endings row.ends (values_of bytes) ≡ Gem gem → 14 + 4 * row.tags ≤ length bytes

here_row : (side : Side) (bytes : List ℕ) (row : Row) → All (λ row. IsTrue (row_fits side.settings.input_tpid row)) side.rows
    → first_row side.rows (values_of bytes) ≡ Some row → HereRow side bytes row
here_row side bytes row all is = subst (HereRow side bytes) (same (sym first.is_first ∙ is)) (record { fit = first.fit; long = first.long })
  where
    first : FirstRow side bytes
    first = row_is side bytes row all is

    same : Some first.row ≡ Some row → first.row ≡ row
    same e = cc

-- bytes that a treatment writes
compared_told : (e : Entities) (expected : Expectation) (side : Side) (bytes : List ℕ) (c : IsAdmitted e expected side bytes) (retag : Retag)
    → is_any expected.treatment ≡ false → retag_at e expected side bytes c ≡ Some retag → Told e expected side bytes c (Some retag)
compared_told e expected side bytes c retag some is =
    let here = here_of expected side in
    let before = before_of expected side in
    let tags_same : tags_at e expected side bytes c ≡ tags_apart here before (values_of bytes) c.row c.first.row =
    ap (tags_apart here before (values_of bytes) c.row) (counted_same expected.treatment c.first.row some) in
    let long = c.meant.long in
    let own = here_row here bytes c.row (here_fits (asked_of expected side)) c.is_first in
    let count : c.row.tags ≡ length c.meant.frame.tags = ap (λ (r : Row). r.tags) c.meant.is in
    let same : c.row.retag ≡ retag = ap (λ (r : Row). r.retag) c.meant.is ∙ ap retag_or_keep is in
    let wanted = sent_wanted expected.treatment retag side.settings c.row bytes c.meant.frame side.settings.input_tpid some c.meant.read c.meant.two
    (omega arith) c.fits is count same in
    let met = meets_at e expected side bytes c (Some (sent_by side.settings c.row bytes)) wanted in
    let compared = ap (endings_apart false (Gem 0) (marked expected.ending (end_at e expected side bytes c))) tags_same
    ∙ compared_apart expected.ending (end_at e expected side bytes c) (tags_apart here before (values_of bytes) c.row c.first.row) (sent_at e expected side bytes c)
    (sent_by side.settings c.row bytes) (λ gem leaves.
    tells_not (tags_apart here before (values_of bytes) c.row c.first.row) (sent_at e expected side bytes c) (sent_by side.settings c.row bytes) (sent_by side.settings c.row bytes) refl
    (sent_tells here before c.row c.first.row bytes own.fit c.first.fit c.port.output c.port.output (own.long _ c.ends) (c.first.long gem leaves) c.fits)) in
    apart_tells _ _ (meets e expected bytes) (compared ∙ ap not (sym met)) (fails_always expected (marked expected.ending (end_at e expected side bytes c)) some)

-- bytes that none writes
unwritten_told : (e : Entities) (expected : Expectation) (side : Side) (bytes : List ℕ) (c : IsAdmitted e expected side bytes) (wanted : WantedRetag)
    → expected.treatment ≡ treatment.Retag wanted → retag_at e expected side bytes c ≡ None → Told e expected side bytes c None
unwritten_told e expected side bytes c wanted by is =
    let frame = c.meant.frame in
    let sent = sent_at e expected side bytes c in
    let end = end_at e expected side bytes c in
    let want = frame_bytes (record frame { tags = tags_wanted wanted side.settings frame.tags (dscp_of frame.rest) }) in
    let range : All IsInRange frame.tags =
    subst (λ (tags : List TagFields). All IsInRange tags) c.meant.read.slots_are (slots_in_range (length frame.tags) bytes c.fits) in
    let none : retag_for (treatment.Retag wanted) side.settings (outer_of frame.tags).tpid (inner_of frame.tags).tpid ≡ None =
    ap (λ (t : WantedTreatment). retag_for t side.settings (outer_of frame.tags).tpid (inner_of frame.tags).tpid) (sym by) ∙ is in
    let read = ap (λ (n : ℕ). frame_of n bytes) (sym (input_is e expected side c.port)) ∙ c.meant.read.read in
    let met = meets_at e expected side bytes c (Some want) (ap (λ (t : WantedTreatment). bytes_wanted t side.settings bytes frame) by) in
    let unwritten = unwritten_apart expected.ending end (tags_at e expected side bytes c) sent want (λ gem ends.
    let leaving = leaving_by e expected.port gem bytes sent
    (seen_by e expected.port side bytes c.first c.port.seen c.fits ∙ ap (λ (x : Ending). sight_by_ending x sent) ends) in
    ap (λ (x : List ℕ). bytes_eq x want) (sym leaving.sent_is)
    ∙ never_written e expected.port gem bytes frame leaving.out wanted side.settings c.port.settings read leaving.leaves c.port.output range c.meant.two none) in
    apart_tells _ _ (meets e expected bytes) (unwritten ∙ ap not (sym met))
    (fails_always expected (marked expected.ending end) (ap is_any by))

told : (e : Entities) (expected : Expectation) (side : Side) (bytes : List ℕ) (c : IsAdmitted e expected side bytes)
    → Told e expected side bytes c (retag_at e expected side bytes c)
told e expected side bytes c = by_treatment expected.treatment refl
  where
    made : Option Retag → Type 0
    made retag = Told e expected side bytes c retag

    by_retag : (retag : Option Retag) → retag_at e expected side bytes c ≡ retag → Told e expected side bytes c retag
        → Told e expected side bytes c (retag_at e expected side bytes c)
    by_retag retag is h = rw is h

    by_treatment : (by : WantedTreatment) → expected.treatment ≡ by → Told e expected side bytes c (retag_at e expected side bytes c)
    by_treatment treatment.Any is =
        by_retag (Some keep) (ap (λ (t : WantedTreatment). retag_for t side.settings (outer_of c.meant.frame.tags).tpid (inner_of c.meant.frame.tags).tpid) is)
        (any_told e expected side bytes c is)
    by_treatment treatment.Unchanged is =
        let some : retag_at e expected side bytes c ≡ Some keep =
        ap (λ (t : WantedTreatment). retag_for t side.settings (outer_of c.meant.frame.tags).tpid (inner_of c.meant.frame.tags).tpid) is in
        by_retag (Some keep) some (compared_told e expected side bytes c keep (ap is_any is) some)
    by_treatment (treatment.Retag wanted) is = by_found (retag_at e expected side bytes c) refl
      where
        by_found : (retag : Option Retag) → retag_at e expected side bytes c ≡ retag → Told e expected side bytes c (retag_at e expected side bytes c)
        by_found None none = by_retag None none (unwritten_told e expected side bytes c wanted is none)
        by_found (Some retag) some = by_retag (Some retag) some (compared_told e expected side bytes c retag (ap is_any is) some)

-- ---- every frame

used_is : (e : Entities) (port : ℕ) (side : Side) (bytes : List ℕ) (first : FirstRow side bytes) → Mean e port side.endings side.rows
    → All (λ b. b < 2 ^ 8) bytes → first.row.used ≡ (class_of e port bytes).used
used_is e port side bytes first mean fits =
    used (sym (class_at side.endings side.rows (values_of bytes) first.row (ending_of side.endings first.row.ends (values_of bytes)) first.is_first refl)
    ∙ mean.class bytes fits)
  where
    used : Some (record { used = first.row.used; ending = ending_of side.endings first.row.ends (values_of bytes) }) ≡ Some (class_of e port bytes)
        → first.row.used ≡ (class_of e port bytes).used
    used h =
        let same : record { used = first.row.used; ending = ending_of side.endings first.row.ends (values_of bytes) } ≡ class_of e port bytes = cc in
        ap (λ (class : FrameClass). class.used) same

class_before : (by : WantedEnding) (treatment : WantedTreatment) (side : Side) (bytes : List ℕ) (first : FirstRow side bytes)
    → class_by (map (marked by) side.endings) (counted_rows treatment side.rows) (values_of bytes)
    ≡ Some (record { used = first.row.used; ending = marked by (ending_of side.endings first.row.ends (values_of bytes)) })
class_before by treatment side bytes first =
    class_counted treatment (map (marked by) side.endings) side.rows (values_of bytes)
    ∙ class_at (map (marked by) side.endings) side.rows (values_of bytes) first.row (marked by (ending_of side.endings first.row.ends (values_of bytes)))
    first.is_first (ending_marked by side.endings first.row.ends (values_of bytes))

abbrev Decided : Entities → Expectation → Side → List ℕ → Type 0
Decided e expected side bytes = IsDecided e expected (before_of expected side) (here_of expected side) (after_of side) bytes

-- one that isn't admitted
not_admitted : (e : Entities) (expected : Expectation) (side : Side) (bytes : List ℕ) (row : Row) (first : FirstRow side bytes)
    → IsPort e expected.port side → All (λ b. b < 2 ^ 8) bytes
    → first_row (here_rows (asked_of expected side)) (values_of bytes) ≡ Some row → ending_of endings row.ends (values_of bytes) ≡ Dropped NoMapper
    → admits e expected bytes ≡ false → Decided e expected side bytes
not_admitted e expected side bytes row first port fits is_first ends none =
    let here = here_of expected side in
    let after = after_of side in
    let values = values_of bytes in
    let apart : seen_apart false here after values ≡ false =
    apart_by here after values row last_row (Dropped NoMapper) (Dropped NoMapper) is_first refl ends refl in
    record {
      classes = record {
        earlier = record { used = first.row.used; ending = marked expected.ending (ending_of side.endings first.row.ends values) };
        between = record { used = row.used; ending = Dropped NoMapper };
        later = record { used = last_row.used; ending = Dropped NoMapper };
        by_before = class_before expected.ending expected.treatment side bytes first;
        by_here = class_at endings (here_rows (asked_of expected side)) values row (Dropped NoMapper) is_first ends;
        by_after = refl;
      };
      admitted = ap (λ (b : Bool). b && b) apart ∙ sym none;
      used = λ h. absurd (false≢true (sym none ∙ h));
      unmet = λ h. absurd (false≢true (sym none ∙ h));
      failing = λ h. absurd (false≢true (sym none ∙ h));
      class = used_is e expected.port side bytes first port.mean fits;
    }

-- and one that is
is_admitted : (e : Entities) (expected : Expectation) (side : Side) (bytes : List ℕ) (c : IsAdmitted e expected side bytes)
    → admits e expected bytes ≡ true → Decided e expected side bytes
is_admitted e expected side bytes c all =
    let before = before_of expected side in
    let here = here_of expected side in
    let after = after_of side in
    let values = values_of bytes in
    let gem = gem_for (retag_at e expected side bytes c) in
    let end = marked expected.ending (end_at e expected side bytes c) in
    let apart = endings_apart false (Gem gem) end (tags_at e expected side bytes c) in
    let shown_after : seen_apart false here after values ≡ true =
    apart_by here after values c.row last_row (Gem gem) (Dropped NoMapper) c.is_first refl c.ends refl in
    let shown_before : seen_apart false here before values ≡ apart =
    apart_by here before values c.row (counted expected.treatment c.first.row) (Gem gem) end c.is_first
    (first_counted expected.treatment side.rows values c.first.row c.first.is_first) c.ends
    (ap (λ (how : Ends). ending_of before.endings how values) (counted_ends expected.treatment c.first.row)
    ∙ ending_marked expected.ending side.endings c.first.row.ends values) in
    let shown : is_shown before here after values ≡ apart =
    ap (λ (b : Bool). b && seen_apart false here after values) shown_before ∙ ap (λ (b : Bool). apart && b) shown_after ∙ and_true apart in
    let tell = told e expected side bytes c in
    record {
      classes = record {
        earlier = record { used = c.first.row.used; ending = end };
        between = record { used = c.row.used; ending = Gem gem };
        later = record { used = last_row.used; ending = Dropped NoMapper };
        by_before = class_before expected.ending expected.treatment side bytes c.first;
        by_here = class_at endings (here_rows (asked_of expected side)) values c.row (Gem gem) c.is_first c.ends;
        by_after = refl;
      };
      admitted = ap (λ (b : Bool). b && b) shown_after ∙ sym all;
      used = λ h. ap (λ (r : Row). r.used) c.meant.is;
      unmet = λ h unmet. shown ∙ tell.unmet unmet;
      failing = λ h is. tell.failing_is (sym shown ∙ is);
      class = used_is e expected.port side bytes c.first c.port.mean c.fits;
    }

decided : (e : Entities) (expected : Expectation) (side : Side) → IsPort e expected.port side
    → (bytes : List ℕ) → All (λ b. b < 2 ^ 8) bytes → Decided e expected side bytes
decided e expected side port bytes fits =
    ⊎_elim by_last by_filter (first_here e expected (asked_of expected side) bytes refl (input_is e expected side port) fits)
  where
    first : FirstRow side bytes
    first = first_there e expected.port side bytes port.mean port.fit fits

    by_last : IsLast e expected (asked_of expected side) bytes → Decided e expected side bytes
    by_last is = not_admitted e expected side bytes last_row first port fits is.is_first refl is.not_admitted

    by_filter : IsOfFilter e expected (asked_of expected side) bytes → Decided e expected side bytes
    by_filter is = by_dscp (is_there expected.filter.dscp (dscp_of is.meant.frame.rest)) refl
      where
        retag : Option Retag
        retag = retag_for expected.treatment side.settings (outer_of is.meant.frame.tags).tpid (inner_of is.meant.frame.tags).tpid

        ends : ending_of endings is.row.ends (values_of bytes)
            ≡ (if is_there expected.filter.dscp (dscp_of is.meant.frame.rest)
            then Gem (gem_for (retag_for expected.treatment side.settings (outer_of is.meant.frame.tags).tpid (inner_of is.meant.frame.tags).tpid))
            else Dropped NoMapper)
        ends =
            ap (λ (r : Row). ending_of endings r.ends (values_of bytes)) is.meant.is
            ∙ ending_here expected.filter.dscp (dscp_of is.meant.frame.rest) (length is.meant.frame.tags) (values_of bytes)
            (retag_for expected.treatment side.settings (outer_of is.meant.frame.tags).tpid (inner_of is.meant.frame.tags).tpid)
            is.meant.read.describes.dscp_is

        by_dscp : (b : Bool) → is_there expected.filter.dscp (dscp_of is.meant.frame.rest) ≡ b → Decided e expected side bytes
        by_dscp true has =
            is_admitted e expected side bytes
            (record {
              port = port;
              fits = fits;
              first = first;
              row = is.row;
              is_first = is.is_first;
              meant = is.meant;
              ends = rw has at ends;
            })
            (is.admitted ∙ has)
        by_dscp false has = not_admitted e expected side bytes is.row first port fits is.is_first (rw has at ends) (is.admitted ∙ has)

-- ---- all of it

pub decide : (e : Entities) (expected : Expectation) (side : Side) → IsPort e expected.port side
    → Decide e expected (before_of expected side) (here_of expected side) (after_of side)
decide e expected side port =
    record {
      first = record {
        fit = counted_fits expected.treatment side.settings.input_tpid side.rows port.fit;
        marked = counted_marked expected.treatment side.settings side.rows port.marked;
        few = counted_few expected.treatment side.rows port.few;
      };
      second = record {
        fit = here_fits (asked_of expected side);
        marked = here_marked (asked_of expected side);
        few = here_few (asked_of expected side);
      };
      third = record {
        fit = last_fits (asked_of expected side);
        marked = last_marked side.settings;
        few = omega arith;
      };
      frames = decided e expected side port;
    }

-- as code makes them
pub side_is : (settings settings' : TableSettings) (some some' : List Ending) (rows rows' : List Row) → settings ≡ settings' → some ≡ some' → rows ≡ rows' →
    let side : Side = record { settings = settings; endings = some; rows = rows } in side ≡ record { settings = settings'; endings = some'; rows = rows' }
side_is settings settings' some some' rows rows' p q r = rw (p, q, r) refl

pub decide_along : (e : Entities) (expected : Expectation) (side before here after : Side) → IsPort e expected.port side
    → before ≡ before_of expected side → here ≡ here_of expected side → after ≡ after_of side → Decide e expected before here after
decide_along e expected side before here after port p q r = rw (p, q, r) (decide e expected side port)
