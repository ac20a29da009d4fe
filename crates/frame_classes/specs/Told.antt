-- What is told of a frame by one, two or three configurations side by side.
use Rattle.std.specs.Prelude.{ℕ, ◌+◌, ◌*◌, ◌^◌, Bool, true, false, ◌&&◌, List, [], ◌∷◌, Option, Some, None, if◌then◌else◌, ◌==◌}
use Rattle.std.specs.List.{flat_map}
use Rattle.frame_rows.specs.declared.class.FrameClass.{FrameClass}
use Rattle.frame_rows.specs.declared.class.Use.{Use}
use Rattle.frame_rows.specs.declared.class.Use.TheVariants.{Unread, NoTable, Entry, NoEntry}
use Rattle.frame_rows.specs.declared.field.Values.{Values}
use Rattle.frame_rows.specs.declared.row.Row.{Row}
use Rattle.frame_rows.specs.declared.rows.Rows.{Rows}
use Rattle.frame_rows.specs.Class.{class_fits, class_number}
use Rattle.frame_rows.specs.Row.{class_by}
use Rattle.frame_rows.specs.Sight.{Side, seen_apart}
use Rattle.frame_classes.specs.declared.told.Told.{Told}
use Rattle.frame_classes.specs.declared.told.Told.TheVariants.{One, Two, Three}

-- ---- their order

-- the number of a class, from 1 on, is below this
abbrev pub classes_end : ℕ
classes_end = 2 ^ 26

abbrev pub digit : FrameClass → ℕ
digit class = class_number class + 1

abbrev pub told_number : Told → ℕ
told_number (One class) = digit class
told_number (Two before after) = digit before * classes_end + digit after
told_number (Three before here after) = (digit before * classes_end + digit here) * classes_end + digit after

abbrev pub told_fits : Told → Bool
told_fits (One class) = class_fits class
told_fits (Two before after) = class_fits before && class_fits after
told_fits (Three before here after) = class_fits before && (class_fits here && class_fits after)

-- ---- what is told

abbrev pub class_at : Side → Values → Option FrameClass
class_at side values = class_by side.endings side.rows values

-- what one, two or three sides tell by the class of each
abbrev pub one_of : Option FrameClass → Option Told
one_of None = None
one_of (Some class) = Some (One class)

abbrev pub two_of : Option FrameClass → Option FrameClass → Option Told
two_of None after = None
two_of (Some before) None = None
two_of (Some before) (Some after) = Some (Two before after)

abbrev pub three_of : Option FrameClass → Option FrameClass → Option FrameClass → Option Told
three_of None here after = None
three_of (Some before) None after = None
three_of (Some before) (Some here) None = None
three_of (Some before) (Some here) (Some after) = Some (Three before here after)

abbrev pub told_of_classes : ℕ → Option FrameClass → Option FrameClass → Option FrameClass → Option Told
told_of_classes count first second third =
    if count == 1 then one_of first
    else (if count == 2 then two_of first second
    else (if count == 3 then three_of first second third
    else None))

-- the classes by each side
abbrev pub classes_at : List Side → Values → Option Told
classes_at [] values = None
classes_at (one ∷ []) values = one_of (class_at one values)
classes_at (before ∷ after ∷ []) values = two_of (class_at before values) (class_at after values)
classes_at (before ∷ here ∷ after ∷ rest) values = three_of (class_at before values) (class_at here values) (class_at after values)

-- whether frames are to be told of: of two sides, where they see them otherwise; of three, where the one between sees them
-- otherwise than the first and the last
abbrev pub is_shown : List Side → Values → Bool
is_shown [] values = true
is_shown (one ∷ []) values = true
is_shown (before ∷ after ∷ []) values = seen_apart true before after values
is_shown (before ∷ here ∷ after ∷ rest) values = seen_apart false here before values && seen_apart false here after values

abbrev pub told_by : List Side → Values → Option Told
told_by sides values = if is_shown sides values then classes_at sides values else None

-- ---- what is looked for

abbrev pub same_use : Use → Use → Bool
same_use Unread Unread = true
same_use NoTable NoTable = true
same_use (Entry number) (Entry other) = number == other
same_use NoEntry NoEntry = true
same_use _ _ = false

-- all that is told; or of three configurations that of frames for which the one between uses this
abbrev pub is_wanted : Option Use → Told → Bool
is_wanted None told = true
is_wanted (Some used) (One class) = true
is_wanted (Some used) (Two before after) = true
is_wanted (Some used) (Three before here after) = same_use here.used used

-- ---- sides

-- the rows of all, one side behind the other
abbrev pub rows_of_all : List Side → List Row
rows_of_all sides = flat_map (λ side. side.rows) sides

-- the side of some rows
abbrev pub side_by : Rows → Side
side_by rows = record { settings = rows.settings; endings = rows.endings; rows = rows.rows.items }
