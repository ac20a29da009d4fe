-- Values that are near in all fields have one class.
use Rattle.std.proofs.Common.{◌≡◌, ℕ, ◌%◌, ◌^◌, ◌<◌, ◌==◌, Bool, true, false, List, [], ◌∷◌, Some, arith, refl, ap, sym, ◌∙◌}
use Rattle.std.specs.Prelude.{All, slice_index_or}
use Rattle.std.proofs.lemmas.Bool.{eq-eqb, ne_eqb}
use Rattle.std.proofs.lemmas.List.{set-get_or}
use Rattle.std.proofs.lemmas.List.Elements.{All-head, All-tail}
use Rattle.frame_meaning.specs.declared.reason.Reason.TheVariants.{NoMapper}
use Rattle.frame_rows.specs.declared.class.Ending.{Ending}
use Rattle.frame_rows.specs.declared.class.Ending.TheVariants.{Dropped}
use Rattle.frame_rows.specs.declared.class.FrameClass.{FrameClass}
use Rattle.frame_rows.specs.declared.field.Field.{Field}
use Rattle.frame_rows.specs.declared.field.Field.TheVariants.{Length, FirstType, SecondType, ThirdType, FirstVid, SecondVid, ThirdVid, FirstPriority, SecondPriority, FirstEligible, SecondEligible}
use Rattle.frame_rows.specs.declared.field.Values.{Values}
use Rattle.frame_rows.specs.declared.source.DscpSource.{DscpSource}
use Rattle.frame_rows.specs.declared.source.Source.{Source}
use Rattle.frame_rows.specs.declared.source.Source.TheVariants.{Fixed, FirstTag, SecondTag, Dscp}
use Rattle.frame_rows.specs.declared.row.Ends.{Ends}
use Rattle.frame_rows.specs.declared.row.Ends.TheVariants as ends
use Rattle.frame_rows.specs.declared.row.Row.{Row}
use Rattle.frame_rows.specs.Field.{fields, place_of, type_behind, value_at, vid_behind, with_value}
use Rattle.frame_rows.specs.Source.{dscp_behind, mapped, priority_by}
use Rattle.frame_rows.specs.Row.{class_by, class_of_row, dscp_reads, ending_of, ends_read, passes, row_reads, source_reads}
use Rattle.frame_classes.specs.Splitting.{IsNear}
use Rattle.frame_classes.proofs.Near.{type_before, type_first}

-- what holds of all fields holds of each
pub at_field : (P : Field → Type 0) → All P fields → (field : Field) → P field
at_field P h Length = h 0 Length (omega arith)
at_field P h FirstType = h 1 Length (omega arith)
at_field P h SecondType = h 2 Length (omega arith)
at_field P h ThirdType = h 3 Length (omega arith)
at_field P h FirstVid = h 4 Length (omega arith)
at_field P h SecondVid = h 5 Length (omega arith)
at_field P h ThirdVid = h 6 Length (omega arith)
at_field P h FirstPriority = h 7 Length (omega arith)
at_field P h SecondPriority = h 8 Length (omega arith)
at_field P h FirstEligible = h 9 Length (omega arith)
at_field P h SecondEligible = h 10 Length (omega arith)

-- a field that is set to what it is
pub with_itself : (field : Field) (values : Values) → with_value field (value_at field values) values ≡ values
with_itself field values = ap of_items (set-get_or values.values (place_of field) 0)
  where
    of_items : List ℕ → Values
    of_items items = record { values = items }

-- what is read of the VID is the priority
pub reads_vid : (source : DscpSource) (values : Values)
    → dscp_reads source values (vid_behind source.tags) (value_at (vid_behind source.tags) values) ≡ mapped source (dscp_behind source.tags values)
reads_vid source values =
    let type : place_of (type_behind source.tags) < place_of (vid_behind source.tags) = type_before source.tags in
    let first : 0 < place_of (type_behind source.tags) = type_first source.tags in
    let no_length : (place_of (vid_behind source.tags) == 0) ≡ false = ne_eqb (place_of (vid_behind source.tags)) 0 (omega arith) in
    let no_type : (place_of (vid_behind source.tags) == place_of (type_behind source.tags)) ≡ false =
    ne_eqb (place_of (vid_behind source.tags)) (place_of (type_behind source.tags)) (omega arith) in
    let vid : (place_of (vid_behind source.tags) == place_of (vid_behind source.tags)) ≡ true = eq-eqb (place_of (vid_behind source.tags)) (place_of (vid_behind source.tags)) refl in
    rw (no_length, no_type, vid) (ap (λ (v : Values). mapped source (dscp_behind source.tags v)) (with_itself (vid_behind source.tags) values))

priority_same : (source : Source) (one other : Values)
    → ((field : Field) → source_reads source one field (value_at field one) ≡ source_reads source other field (value_at field other))
    → priority_by source one ≡ priority_by source other
priority_same (Fixed priority) one other same = refl
priority_same FirstTag one other same = ap (λ (n : ℕ). n % 2 ^ 3) (same FirstPriority)
priority_same SecondTag one other same = ap (λ (n : ℕ). n % 2 ^ 3) (same SecondPriority)
priority_same (Dscp source) one other same = sym (reads_vid source one) ∙ same (vid_behind source.tags) ∙ reads_vid source other

pub ending_same : (endings : List Ending) (e : Ends) (one other : Values)
    → ((field : Field) → ends_read e one field (value_at field one) ≡ ends_read e other field (value_at field other))
    → ending_of endings e one ≡ ending_of endings e other
ending_same endings (ends.Dropped reason) one other same = refl
ending_same endings (ends.ByPriority source) one other same =
    ap (λ (priority : ℕ). slice_index_or endings priority (Dropped NoMapper)) (priority_same source one other same)

class_of_same : (endings : List Ending) (row : Row) (one other : Values)
    → ((field : Field) → row_reads row one field (value_at field one) ≡ row_reads row other field (value_at field other))
    → class_of_row endings row one ≡ class_of_row endings row other
class_of_same endings row one other same =
    ap (λ (ending : Ending). of_ending ending) (ending_same endings row.ends one other same)
  where
    of_ending : Ending → FrameClass
    of_ending ending = record { used = row.used; ending = ending }

class_by_rows : (endings : List Ending) (rows : List Row) (one other : Values)
    → All (λ row. passes fields row one ≡ passes fields row other) rows
    → All (λ row. passes fields row one ≡ true
    → All (λ field. row_reads row one field (value_at field one) ≡ row_reads row other field (value_at field other)) fields) rows
    → class_by endings rows one ≡ class_by endings rows other
class_by_rows endings [] one other alike read_alike = refl
class_by_rows endings (row ∷ rest) one other alike read_alike =
    by_first (passes fields row one) refl
    (class_by_rows endings rest one other (All-tail Alike row rest alike) (All-tail ReadAlike row rest read_alike))
  where
    Alike : Row → Type 0
    Alike row = passes fields row one ≡ passes fields row other

    ReadAlike : Row → Type 0
    ReadAlike row = passes fields row one ≡ true
        → All (λ field. row_reads row one field (value_at field one) ≡ row_reads row other field (value_at field other)) fields

    by_first : (b : Bool) → passes fields row one ≡ b → class_by endings rest one ≡ class_by endings rest other
        → class_by endings (row ∷ rest) one ≡ class_by endings (row ∷ rest) other
    by_first true is others =
        let too = sym (All-head Alike row rest alike) ∙ is in
        rw (is, too) (ap (λ (class : FrameClass). Some class) (class_of_same endings row one other
        (at_field (λ field. row_reads row one field (value_at field one) ≡ row_reads row other field (value_at field other)) (All-head ReadAlike row rest read_alike is))))
    by_first false is others =
        let too = sym (All-head Alike row rest alike) ∙ is in
        rw (is, too) others

-- the class of values that no row tells apart
pub class_near : (endings : List Ending) (rows : List Row) (one other : Values) → IsNear rows fields one other
    → class_by endings rows one ≡ class_by endings rows other
class_near endings rows one other near = class_by_rows endings rows one other near.alike near.read_alike
