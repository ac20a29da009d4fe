-- Values that rows don't tell apart, one field further.
use Rattle.std.proofs.Common.{◌≡◌, ◌≢◌, ℕ, ◌+◌, ◌*◌, ◌<◌, ◌==◌, Bool, true, false, Option, Some, None, if◌then◌else◌, arith, refl, ap, sym, length, nat_lt, ◌∙◌}
use Rattle.std.proofs.lemmas.Bool.{eqb-true}
use Rattle.std.proofs.lemmas.List.{get_or-set_other, get_or-set_same, length-set}
use Rattle.frame_rows.specs.declared.field.Field.{Field}
use Rattle.frame_rows.specs.declared.field.Field.TheVariants.{Length}
use Rattle.frame_rows.specs.declared.field.Values.{Values}
use Rattle.frame_rows.specs.declared.source.DscpSource.{DscpSource}
use Rattle.frame_rows.specs.declared.source.Source.{Source}
use Rattle.frame_rows.specs.declared.source.Source.TheVariants.{Fixed, FirstTag, SecondTag, Dscp}
use Rattle.frame_rows.specs.declared.row.Ends.{Ends}
use Rattle.frame_rows.specs.declared.row.Ends.TheVariants as ends
use Rattle.frame_rows.specs.declared.row.Row.{Row}
use Rattle.frame_rows.specs.Field.{place_of, type_behind, value_at, vid_behind, with_value}
use Rattle.frame_rows.specs.Source.{dscp_behind, dscp_in, mapped, packet_of}
use Rattle.frame_rows.specs.Row.{dscp_reads, ends_read, marking_reads, row_marks, row_reads, source_reads}

-- ---- one value changed

-- the other fields keep theirs
pub value-with_other : (field other : Field) (value : ℕ) (values : Values) → place_of other ≢ place_of field
    → value_at other (with_value field value values) ≡ value_at other values
value-with_other field other value values apart = get_or-set_other values.values (place_of field) (place_of other) value 0 apart

-- and the field has its own
pub value-with_same : (field : Field) (value : ℕ) (values : Values) → place_of field < length values.values
    → value_at field (with_value field value values) ≡ value
value-with_same field value values within = get_or-set_same values.values (place_of field) value 0 within

-- ---- what is read

-- the type behind tags stands before the VID behind them, and the length before both
pub type_before : (tags : ℕ) → place_of (type_behind tags) < place_of (vid_behind tags)
type_before tags = by_first (nat_lt tags 1) (nat_lt tags 2) refl refl
  where
    by_first : (one two : Bool) → nat_lt tags 1 ≡ one → nat_lt tags 2 ≡ two → place_of (type_behind tags) < place_of (vid_behind tags)
    by_first true two is is' = rw is (omega arith)
    by_first false true is is' = rw (is, is') (omega arith)
    by_first false false is is' = rw (is, is') (omega arith)

pub type_first : (tags : ℕ) → 0 < place_of (type_behind tags)
type_first tags = by_first (nat_lt tags 1) (nat_lt tags 2) refl refl
  where
    by_first : (one two : Bool) → nat_lt tags 1 ≡ one → nat_lt tags 2 ≡ two → 0 < place_of (type_behind tags)
    by_first true two is is' = rw is (omega arith)
    by_first false true is is' = rw (is, is') (omega arith)
    by_first false false is is' = rw (is, is') (omega arith)

-- a DSCP depends on the length, the type and the VID alone
pub dscp_behind-same : (tags : ℕ) (one other : Values) → value_at Length one ≡ value_at Length other
    → value_at (type_behind tags) one ≡ value_at (type_behind tags) other → value_at (vid_behind tags) one ≡ value_at (vid_behind tags) other
    → dscp_behind tags one ≡ dscp_behind tags other
dscp_behind-same tags one other length type vid =
    by_parts (value_at Length one) (value_at Length other) (value_at (type_behind tags) one) (value_at (type_behind tags) other)
    (value_at (vid_behind tags) one) (value_at (vid_behind tags) other) length type vid
  where
    by_parts : (l l' t t' v v' : ℕ) → l ≡ l' → t ≡ t' → v ≡ v'
        → (if nat_lt l (16 + 4 * tags) then None else dscp_in (packet_of t) v) ≡ (if nat_lt l' (16 + 4 * tags) then None else dscp_in (packet_of t') v')
    by_parts l l' t t' v v' p q r = rw (p, q, r) refl

-- what is read of a field with a value depends on other values by the DSCP alone
pub dscp_reads-same : (source : DscpSource) (field : Field) (value : ℕ) (one other : Values)
    → ((place_of field == place_of (vid_behind source.tags)) ≡ true
    → dscp_behind source.tags (with_value field value one) ≡ dscp_behind source.tags (with_value field value other))
    → dscp_reads source one field value ≡ dscp_reads source other field value
dscp_reads-same source field value one other same =
    by_place (place_of field == 0) (place_of field == place_of (type_behind source.tags)) (place_of field == place_of (vid_behind source.tags)) refl refl refl
  where
    by_place : (length type vid : Bool) → (place_of field == 0) ≡ length → (place_of field == place_of (type_behind source.tags)) ≡ type
        → (place_of field == place_of (vid_behind source.tags)) ≡ vid → dscp_reads source one field value ≡ dscp_reads source other field value
    by_place true type vid p q r = rw p refl
    by_place false true vid p q r = rw (p, q) refl
    by_place false false true p q r = rw (p, q, r) (ap (mapped source) (same r))
    by_place false false false p q r = rw (p, q, r) refl

source_reads-same : (source : Source) (field : Field) (value : ℕ) (one other : Values)
    → ((tags : ℕ) → (place_of field == place_of (vid_behind tags)) ≡ true
    → dscp_behind tags (with_value field value one) ≡ dscp_behind tags (with_value field value other))
    → source_reads source one field value ≡ source_reads source other field value
source_reads-same (Fixed priority) field value one other same = refl
source_reads-same FirstTag field value one other same = refl
source_reads-same SecondTag field value one other same = refl
source_reads-same (Dscp source) field value one other same = dscp_reads-same source field value one other (same source.tags)

pub row_reads-same : (row : Row) (field : Field) (value : ℕ) (one other : Values)
    → ((tags : ℕ) → (place_of field == place_of (vid_behind tags)) ≡ true
    → dscp_behind tags (with_value field value one) ≡ dscp_behind tags (with_value field value other))
    → row_reads row one field value ≡ row_reads row other field value
row_reads-same row field value one other same = by_ends row.ends
  where
    by_ends : (e : Ends) → ends_read e one field value ≡ ends_read e other field value
    by_ends (ends.Dropped reason) = refl
    by_ends (ends.ByPriority source) = source_reads-same source field value one other same

pub row_marks-same : (row : Row) (field : Field) (value : ℕ) (one other : Values)
    → ((tags : ℕ) → (place_of field == place_of (vid_behind tags)) ≡ true
    → dscp_behind tags (with_value field value one) ≡ dscp_behind tags (with_value field value other))
    → row_marks row one field value ≡ row_marks row other field value
row_marks-same row field value one other same = by_marking row.marking
  where
    by_marking : (m : Option DscpSource) → marking_reads m one field value ≡ marking_reads m other field value
    by_marking None = refl
    by_marking (Some source) = dscp_reads-same source field value one other (same source.tags)

-- no DSCP depends on a field that comes later
dscp_later : (field later : Field) (value other : ℕ) (values : Values) → place_of field < place_of later → place_of later < length values.values
    → (tags : ℕ) → (place_of field == place_of (vid_behind tags)) ≡ true
    → dscp_behind tags (with_value field value (with_value later other values)) ≡ dscp_behind tags (with_value field value values)
dscp_later field later value other values before within tags is =
    let vid : place_of field ≡ place_of (vid_behind tags) = eqb-true (place_of field) (place_of (vid_behind tags)) is in
    let type : place_of (type_behind tags) < place_of (vid_behind tags) = type_before tags in
    let first : 0 < place_of (type_behind tags) = type_first tags in
    let changed = with_value later other values in
    dscp_behind-same tags (with_value field value changed) (with_value field value values)
    (kept Length changed (omega arith) ∙ value-with_other later Length other values (omega arith) ∙ sym (kept Length values (omega arith)))
    (kept (type_behind tags) changed (omega arith) ∙ value-with_other later (type_behind tags) other values (omega arith) ∙ sym (kept (type_behind tags) values (omega arith)))
    (at (vid_behind tags) changed (sym vid) (omega (arith, length-set {A = ℕ})) ∙ sym (at (vid_behind tags) values (sym vid) (omega arith)))
  where
    kept : (g : Field) (w : Values) → place_of g ≢ place_of field → value_at g (with_value field value w) ≡ value_at g w
    kept g w apart = value-with_other field g value w apart

    at : (g : Field) (w : Values) → place_of g ≡ place_of field → place_of field < length w.values → value_at g (with_value field value w) ≡ value
    at g w same within = rw same (value-with_same field value w within)

-- a field that comes later isn't read
pub row_reads-later : (row : Row) (field later : Field) (value other : ℕ) (values : Values) → place_of field < place_of later
    → place_of later < length values.values
    → row_reads row (with_value later other values) field value ≡ row_reads row values field value
row_reads-later row field later value other values before within =
    row_reads-same row field value (with_value later other values) values (dscp_later field later value other values before within)

pub row_marks-later : (row : Row) (field later : Field) (value other : ℕ) (values : Values) → place_of field < place_of later
    → place_of later < length values.values
    → row_marks row (with_value later other values) field value ≡ row_marks row values field value
row_marks-later row field later value other values before within =
    row_marks-same row field value (with_value later other values) values (dscp_later field later value other values before within)
