-- Which values of a field a row tells apart, and which of them its ending depends on.
use Rattle.std.specs.Prelude.{ℕ, Bool, true, false, Option, Some, None, ◌&&◌, ◌||◌, ◌==◌}
use Rattle.frame_rows.specs.declared.field.Field.{Field}
use Rattle.frame_rows.specs.declared.field.Values.{Values}
use Rattle.frame_rows.specs.declared.source.DscpSource.{DscpSource}
use Rattle.frame_rows.specs.declared.source.Source.{Source}
use Rattle.frame_rows.specs.declared.source.Source.TheVariants.{Fixed, FirstTag, SecondTag, Dscp}
use Rattle.frame_rows.specs.declared.row.Ends.{Ends}
use Rattle.frame_rows.specs.declared.row.Ends.TheVariants as ends
use Rattle.frame_rows.specs.declared.row.Row.{Row}
use Rattle.frame_rows.specs.Field.{place_of, vid_behind}
use Rattle.frame_rows.specs.Row.{row_admits, row_marks, row_reads}

abbrev pub alike_by : Bool → Bool → ℕ → ℕ → Bool
alike_by true true one other = one == other
alike_by true false one other = false
alike_by false true one other = false
alike_by false false one other = true

-- a row admits both, its frames end alike and have added tags of one priority, or it admits neither
abbrev pub is_alike : Values → Field → ℕ → ℕ → Row → Bool
is_alike values field one other row =
    alike_by (row_admits row field one) (row_admits row field other) (row_reads row values field one) (row_reads row values field other)
    && alike_by (row_admits row field one) (row_admits row field other) (row_marks row values field one) (row_marks row values field other)

-- the ending of a row's frames depends on each value of a field that is no type and not the length
abbrev pub source_reads_all : Source → Field → Bool
source_reads_all (Fixed priority) field = false
source_reads_all FirstTag field = place_of field == 7
source_reads_all SecondTag field = place_of field == 8
source_reads_all (Dscp source) field = place_of field == place_of (vid_behind source.tags)

abbrev pub ends_read_all : Field → Ends → Bool
ends_read_all field (ends.Dropped reason) = false
ends_read_all field (ends.ByPriority source) = source_reads_all source field

abbrev pub marking_reads_all : Field → Option DscpSource → Bool
marking_reads_all field None = false
marking_reads_all field (Some source) = place_of field == place_of (vid_behind source.tags)

-- the ending of a row's frames, or the priority of an added tag
abbrev pub row_reads_all : Field → Row → Bool
row_reads_all field row = ends_read_all field row.ends || marking_reads_all field row.marking
