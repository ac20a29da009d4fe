-- What is seen of every frame is by the first row that asks nothing else.
use Rattle.std.proofs.Common.{◌≡◌, ℕ, ◌+◌, ◌*◌, ◌<◌, ◌^◌, Bool, true, List, ◌++◌, Option, Some, None, Ok, Err, arith, refl, ap, sym, length, drop, min, take, ◌∙◌}
use Rattle.std.specs.Prelude.{All, Result, ok_or}
use Rattle.std.specs.List.{flat_map}
use Rattle.std.specs.Option.{option_map}
use Rattle.tag_view.specs.declared.fault.FrameFault.{FrameFault}
use Rattle.tag_view.specs.Tag.{TagFields, customer_tpid, tag_bytes}
use Rattle.tag_view.specs.Frame.{Reading, frame_bytes, frame_of, type_at, with_tags}
use Rattle.tag_view.specs.Dscp.{dscp_of}
use Rattle.vlan_rule.specs.declared.settings.TableSettings.{TableSettings}
use Rattle.vlan_rule.specs.declared.treatment.Treatment.{Treatment}
use Rattle.vlan_rule.specs.declared.treatment.Treatment.TheVariants as treatment
use Rattle.vlan_rule.specs.Choice.{choice, entry_at, matches}
use Rattle.vlan_rule.specs.Meaning.{treatment_fits, treatment_of}
use Rattle.treatment.specs.Treatment.{additions_from, left_of, treated, treated_by}
use Rattle.pmapper.specs.Mapper.{Unmarked}
use Rattle.mib_state.specs.Entities.{Entities}
use Rattle.frame_meaning.specs.declared.reason.Reason.{Reason}
use Rattle.frame_meaning.specs.declared.reason.Reason.TheVariants.{RuleDiscard}
use Rattle.frame_meaning.specs.Meaning.{Table, entry_for, forwarded_by, found_then, gem_port_at, input_tpid_of, mapper_at, meaning, table_at, tags_at, tags_by, unmarked_at, verdict_of}
use Rattle.frame_meaning.specs.Reason.{reason_of_fault}
use Rattle.frame_rows.specs.declared.class.Ending.{Ending}
use Rattle.frame_rows.specs.declared.row.Row.{Row}
use Rattle.frame_rows.specs.Treatments.{TreatmentsFit}
use Rattle.frame_rows.specs.Field.{values_of}
use Rattle.frame_rows.specs.Source.{dscp_behind}
use Rattle.frame_rows.specs.Row.{ending_of, first_row}
use Rattle.frame_rows.specs.Rows.{ending_by, endings_at, entry_row, kept_ends, kept_row, no_settings, retag_of, rows_by, rows_of, settings_at, settings_by, table_rows, treated_ends}
use Rattle.frame_rows.specs.Sight.{AreSeen, Side, Sight, Lost, sent_by, side_of, sight_by, sight_by_ending, sight_by_row, sight_of, slots, written}
use Rattle.frame_rows.proofs.Cases.{HasFault, by_reading}
use Rattle.frame_rows.proofs.Endings.{kept_ending, treated_ending}
use Rattle.frame_rows.proofs.Faults.{IsRead}
use Rattle.frame_rows.proofs.Means.{chosen_fits, count_for, filter_for, kept_first, matched_first, unmatched_first}

-- ---- what is seen, by how a frame is read

-- of a frame that leaves the table with these tags, or that it drops
abbrev sight_with : Entities → ℕ → Result (List TagFields) Reason → Reading → Sight
sight_with e port tags frame =
    sight_by (verdict_of (found_then tags (λ tags. found_then (gem_port_at e port tags (dscp_of frame.rest)) (λ gem. Ok (gem, record frame { tags = tags })))))

sight_of_fault : (e : Entities) (port : ℕ) (bytes : List ℕ) (fault : FrameFault) → frame_of (input_tpid_of (table_at e port)) bytes ≡ Err fault
    → sight_of e port bytes ≡ Lost (reason_of_fault fault)
unfolding sight_of meaning forwarded_by
sight_of_fault e port bytes fault is = rw is refl

sight_of_read : (e : Entities) (port : ℕ) (bytes : List ℕ) (frame : Reading) → frame_of (input_tpid_of (table_at e port)) bytes ≡ Ok frame
    → sight_of e port bytes ≡ sight_with e port (tags_at (table_at e port) frame) frame
unfolding sight_of meaning forwarded_by
sight_of_read e port bytes frame is = rw is refl

-- by the ending and the bytes
sight_by_gem : (gem : Result ℕ Reason) (frame : Reading)
    → sight_by (verdict_of (found_then gem (λ gem. Ok (gem, frame)))) ≡ sight_by_ending (ending_by gem) (frame_bytes frame)
sight_by_gem (Ok gem) frame = refl
sight_by_gem (Err reason) frame = refl

-- ---- the bytes that leave

pub written_is : (settings : TableSettings) (row : Row) (bytes : List ℕ) (frame : Reading) (input : ℕ) → IsRead input bytes frame
    → row.tags ≡ length frame.tags
    → written settings row (values_of bytes)
    ≡ additions_from row.retag settings frame.tags (dscp_of frame.rest) ++ left_of row.retag.remove frame.tags
written_is settings row bytes frame input is count =
    ap
    (λ (n : ℕ). additions_from row.retag settings (slots n (values_of bytes)) (dscp_behind n (values_of bytes)) ++ left_of row.retag.remove (slots n (values_of bytes)))
    count
    ∙ ap
    (λ (tags : List TagFields). additions_from row.retag settings tags (dscp_behind (length frame.tags) (values_of bytes)) ++ left_of row.retag.remove tags)
    is.slots_are
    ∙ ap (λ (dscp : Option ℕ). additions_from row.retag settings frame.tags dscp ++ left_of row.retag.remove frame.tags) is.describes.dscp_is

pub sent_is : (settings : TableSettings) (row : Row) (bytes : List ℕ) (frame : Reading) (out : List TagFields) → row.tags ≡ length frame.tags
    → with_tags bytes (length frame.tags) frame.tags ≡ frame → written settings row (values_of bytes) ≡ out
    → sent_by settings row bytes ≡ frame_bytes (record frame { tags = out })
sent_is settings row bytes frame out count whole is =
    ap (λ (tags : List TagFields). take 12 bytes ++ (flat_map tag_bytes tags ++ drop (12 + 4 * row.tags) bytes)) is
    ∙ ap (λ (n : ℕ). take 12 bytes ++ (flat_map tag_bytes out ++ drop (12 + 4 * n) bytes)) count
    ∙ ap (λ (r : Reading). r.addresses ++ (flat_map tag_bytes out ++ r.rest)) whole

-- a frame that leaves with such tags, by its GEM port
leaves_so : (e : Entities) (port : ℕ) (settings : TableSettings) (row : Row) (bytes : List ℕ) (frame : Reading) (out : List TagFields) (ending : Ending)
    → row.tags ≡ length frame.tags → with_tags bytes (length frame.tags) frame.tags ≡ frame → written settings row (values_of bytes) ≡ out
    → ending ≡ ending_by (gem_port_at e port out (dscp_of frame.rest))
    → sight_with e port (Ok out) frame ≡ sight_by_ending ending (sent_by settings row bytes)
leaves_so e port settings row bytes frame out ending count whole is ends =
    sight_by_gem (gem_port_at e port out (dscp_of frame.rest)) (record frame { tags = out })
    ∙ ap (λ (x : Ending). sight_by_ending x (frame_bytes (record frame { tags = out }))) (sym ends)
    ∙ ap (sight_by_ending ending) (sym (sent_is settings row bytes frame out count whole is))

-- ---- a port without a table

pub nothing_removed : (tags : List TagFields) → left_of 0 tags ≡ tags
nothing_removed tags = let none : min 0 (length tags) ≡ 0 = omega arith in rw none refl

kept_seen : (e : Entities) (port : ℕ) (bytes : List ℕ) (frame : Reading) → IsRead customer_tpid bytes frame
    → sight_with e port (Ok frame.tags) frame
    ≡ sight_by_row (record { settings = no_settings; endings = endings_at e port; rows = rows_by None (option_map unmarked_at (mapper_at e port)) })
    (Some (kept_row (option_map unmarked_at (mapper_at e port)) (filter_for frame.tags))) bytes
kept_seen e port bytes frame is =
    let unmarked = option_map unmarked_at (mapper_at e port) in
    let row = kept_row unmarked (filter_for frame.tags) in
    let count = count_for frame.tags (values_of bytes) is.describes.tags_are in
    leaves_so e port no_settings row bytes frame frame.tags (ending_of (endings_at e port) row.ends (values_of bytes)) count is.whole
    (written_is no_settings row bytes frame customer_tpid is count ∙ nothing_removed frame.tags)
    (ap (λ (n : ℕ). ending_of (endings_at e port) (kept_ends unmarked n) (values_of bytes)) count
    ∙ kept_ending e port frame.tags (dscp_of frame.rest) (values_of bytes) is.describes)

-- ---- a port with a table

-- frames of an entry, by its treatment
treated_seen : (e : Entities) (port : ℕ) (by : Treatment) (settings : TableSettings) (row : Row) (bytes : List ℕ) (frame : Reading) (input : ℕ)
    → IsRead input bytes frame → treatment_fits by ≡ true → row.tags ≡ length frame.tags → row.retag ≡ retag_of by
    → row.ends ≡ treated_ends by settings (option_map unmarked_at (mapper_at e port)) row.tags
    → sight_with e port (ok_or (treated_by by settings frame.tags (dscp_of frame.rest)) RuleDiscard) frame
    ≡ sight_by_ending (ending_of (endings_at e port) row.ends (values_of bytes)) (sent_by settings row bytes)
unfolding treated_by
treated_seen e port treatment.Discard settings row bytes frame input is fits count retag ends = rw ends refl
treated_seen e port (treatment.Retag retag) settings row bytes frame input is fits count same ends =
    let unmarked = option_map unmarked_at (mapper_at e port) in
    leaves_so e port settings row bytes frame (additions_from retag settings frame.tags (dscp_of frame.rest) ++ left_of retag.remove frame.tags)
    (ending_of (endings_at e port) row.ends (values_of bytes)) count is.whole
    (written_is settings row bytes frame input is count
    ∙ rw same refl)
    (rw (ends, count) (treated_ending e port (treatment.Retag retag) settings frame.tags (dscp_of frame.rest) (values_of bytes) fits is.describes))

table_seen : (e : Entities) (port : ℕ) (table : Table) (bytes : List ℕ) (frame : Reading) → TreatmentsFit table.entries
    → IsRead table.settings.input_tpid bytes frame →
    let rows = rows_by (Some table) (option_map unmarked_at (mapper_at e port)) in
    sight_with e port (tags_by table frame) frame
    ≡ sight_by_row (record { settings = table.settings; endings = endings_at e port; rows = rows }) (first_row rows (values_of bytes)) bytes
unfolding input_tpid_of tags_by entry_for treated
table_seen e port table bytes frame fits is = by_choice (choice test table.entries) refl
  where
    unmarked : Option Unmarked
    unmarked = option_map unmarked_at (mapper_at e port)

    test : List ℕ → Bool
    test = matches table.settings.input_tpid frame.tags (type_at 0 frame.rest)

    side : Side
    side = record { settings = table.settings; endings = endings_at e port; rows = rows_by (Some table) unmarked }

    by_choice : (chosen : Option ℕ) → choice test table.entries ≡ chosen
        → sight_with e port (tags_by table frame) frame ≡ sight_by_row side (first_row side.rows (values_of bytes)) bytes
    by_choice None none =
        rw none (sym (ap (λ (row : Option Row). sight_by_row side row bytes) (unmatched_first table unmarked bytes frame is none)))
    by_choice (Some place) chosen =
        let first = matched_first table unmarked bytes frame place is chosen in
        let entry = entry_at table.entries place in
        rw chosen (treated_seen e port (treatment_of entry) table.settings (entry_row table unmarked first.at entry) bytes frame table.settings.input_tpid is
        (chosen_fits test table place fits chosen) first.count refl refl)
        ∙ sym (ap (λ (row : Option Row). sight_by_row side row bytes) first.is_row)

-- ---- every frame

-- of a frame that is read, by the port's table
read_seen : (e : Entities) (port : ℕ) (bytes : List ℕ) (frame : Reading) (table : Option Table)
    → ((t : Table) → table ≡ Some t → TreatmentsFit t.entries) → IsRead (input_tpid_of table) bytes frame →
    let rows = rows_by table (option_map unmarked_at (mapper_at e port)) in
    sight_with e port (tags_at table frame) frame
    ≡ sight_by_row (record { settings = settings_by table; endings = endings_at e port; rows = rows }) (first_row rows (values_of bytes)) bytes
unfolding input_tpid_of tags_at
read_seen e port bytes frame None fits is =
    let unmarked = option_map unmarked_at (mapper_at e port) in
    let side : Side = record { settings = no_settings; endings = endings_at e port; rows = rows_by None unmarked } in
    kept_seen e port bytes frame is
    ∙ sym (ap (λ (row : Option Row). sight_by_row side row bytes) (kept_first unmarked bytes frame is))
read_seen e port bytes frame (Some table) fits is = table_seen e port table bytes frame (fits table refl) is

-- of a frame with a fault
fault_seen : (e : Entities) (port : ℕ) (bytes : List ℕ) (fault : FrameFault) (row : Row) → HasFault (input_tpid_of (table_at e port)) bytes fault row
    → sight_of e port bytes ≡ sight_by_row (side_of e port) (first_row (rows_of e port) (values_of bytes)) bytes
fault_seen e port bytes fault row is =
    let lost : Lost (reason_of_fault fault) ≡ sight_by_row (side_of e port) (Some row) bytes = rw (is.ends) refl in
    sight_of_fault e port bytes fault is.refused ∙ lost
    ∙ sym (ap (λ (first : Option Row). sight_by_row (side_of e port) first bytes)
    (is.first (table_rows (table_at e port) (option_map unmarked_at (mapper_at e port)))))

pub are_seen : (e : Entities) (port : ℕ) → ((table : Table) → table_at e port ≡ Some table → TreatmentsFit table.entries) → AreSeen e port (side_of e port)
are_seen e port treatments = record { sight = sight }
  where
    sight : (bytes : List ℕ) → All (λ b. b < 2 ^ 8) bytes
        → sight_of e port bytes ≡ sight_by_row (side_of e port) (first_row (rows_of e port) (values_of bytes)) bytes
    sight bytes fits =
        by_reading (input_tpid_of (table_at e port)) bytes
        (sight_of e port bytes ≡ sight_by_row (side_of e port) (first_row (rows_of e port) (values_of bytes)) bytes) fits
        (fault_seen e port bytes)
        (λ frame is. sight_of_read e port bytes frame is.read ∙ read_seen e port bytes frame (table_at e port) treatments is)

-- by what code makes of them
pub seen_along : (e : Entities) (port : ℕ) (settings : TableSettings) (endings : List Ending) (rows : List Row)
    → settings ≡ settings_at e port → endings ≡ endings_at e port → rows ≡ rows_of e port → AreSeen e port (side_of e port)
    → AreSeen e port (record { settings = settings; endings = endings; rows = rows })
seen_along e port settings endings rows p q r h = rw (p, q, r) h
