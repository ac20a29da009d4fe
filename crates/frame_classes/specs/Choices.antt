-- Which values of a field the rows that are left tell apart.
use Rattle.std.specs.Prelude.{◌≡◌, ◌≤◌, ◌⊎◌, ◌&&◌, ◌||◌, not, ℕ, Any, Bool, true, false, List, Option, Some, None, ◌==◌, slice_get}
use Rattle.std.specs.List.{list_all, list_any}
use Rattle.std.specs.Option.{option_map_or}
use Rattle.frame_rows.specs.declared.field.Field.{Field}
use Rattle.frame_rows.specs.declared.field.Values.{Values}
use Rattle.frame_rows.specs.declared.source.Packet.{Packet}
use Rattle.frame_rows.specs.declared.row.Row.{Row}
use Rattle.frame_rows.specs.Field.{counted_length}
use Rattle.frame_rows.specs.Source.{dscp_in}
use Rattle.frame_rows.specs.Alike.{is_alike, row_reads_all}
use Rattle.frame_rows.specs.Row.{ask_at, named_by}
use Rattle.frame_rows.specs.Sight.{Side}
use Rattle.frame_classes.specs.Splitting.{begins_tag}

-- a test of the row at a place, if one stands there
abbrev pub test_at : (Row → Bool) → Bool → List Row → ℕ → Bool
test_at test missing rows place = option_map_or test (slice_get rows place) missing

abbrev pub are_alike : List Row → List ℕ → Values → Field → ℕ → ℕ → Bool
are_alike rows left values field one other = list_all (test_at (is_alike values field one other) true rows) left

-- ---- what rows name, and read

abbrev pub is_value : ℕ → Option ℕ → Bool
is_value value None = false
is_value value (Some named) = named == value

abbrev pub is_some_value : Option ℕ → Bool
is_some_value None = false
is_some_value (Some named) = true

abbrev pub is_named : List Row → List ℕ → Field → ℕ → Bool
is_named rows left field value = list_any (test_at (λ row. is_value value (named_by (ask_at row field))) false rows) left

abbrev pub is_asked : List Row → List ℕ → Field → Bool
is_asked rows left field = list_any (test_at (λ row. is_some_value (named_by (ask_at row field))) false rows) left

abbrev pub is_read : List Row → List ℕ → Field → Bool
is_read rows left field = list_any (test_at (λ row. row_reads_all field row) false rows) left

-- ---- values that are looked at

-- of the greatest lengths, those that a frame of at least so many bytes can have
abbrev pub IsTried : ℕ → ℕ → Type 0
IsTried least length = (length ≡ counted_length) ⊎ (least ≤ length)

-- a VID, or the same bits of a packet, that no row names, with this DSCP
pub record IsUnnamed (rows : List Row) (left : List ℕ) (field : Field) (packet : Packet) (dscp : Option ℕ) (vid : ℕ) : Type 0 where
  pub unnamed : is_named rows left field vid ≡ false
  pub same : dscp_in packet vid ≡ dscp

-- ---- types that nothing asks for

-- a filter may ask for a type as that of a packet
abbrev pub is_known_type : ℕ → Bool
is_known_type type = type == 0x0800 || (type == 0x86DD || (type == 0x0806 || (type == 0x8863 || (type == 0x8864 || type == 0x888E))))

-- no row that is left names a type, it begins no tag for any side, and no filter asks for it
abbrev pub is_spare : List Side → List Row → List ℕ → Field → ℕ → Bool
is_spare sides rows left field type = not (is_named rows left field type) && (not (begins_tag sides type) && not (is_known_type type))

-- such a type is looked at, or one that rows take alike
pub record HasSpare (sides : List Side) (rows : List Row) (left : List ℕ) (field : Field) (values : Values) (choices : List ℕ) : Type 0 where
  pub spare : ℕ
  pub is : is_spare sides rows left field spare ≡ true
  pub there : Any (λ c. (c ≡ spare) ⊎ (are_alike rows left values field c spare ≡ true)) choices
