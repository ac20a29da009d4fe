-- Where nothing is told of frames, whatever their values are in some fields: configurations see them alike, or other frames are looked for.
use Rattle.std.specs.Prelude.{◌≡◌, ◌⊎◌, ℕ, Bool, true, false, ◌&&◌, List, [], ◌∷◌, All, Option, Some, filter, length, slice_get}
use Rattle.std.specs.List.{list_any}
use Rattle.frame_rows.specs.declared.class.Use.{Use}
use Rattle.frame_rows.specs.declared.field.Field.{Field}
use Rattle.frame_rows.specs.declared.field.Values.{Values}
use Rattle.frame_rows.specs.declared.row.Row.{Row}
use Rattle.frame_rows.specs.Row.{ending_of}
use Rattle.frame_rows.specs.Sight.{Side}
use Rattle.frame_classes.specs.Choices.{test_at}
use Rattle.frame_classes.specs.Left.{first_left, is_of, rows_at}
use Rattle.frame_classes.specs.Settled.{asks_nothing}
use Rattle.frame_classes.specs.Told.{rows_of_all, same_use}

-- by a row of one side and by one of another frames end and leave alike, whatever the table uses
pub record AreSeenAlike (one other : Side) (row row' : Row) : Type 0 where
  pub settings : one.settings ≡ other.settings
  pub ends : (values : Values) → ending_of one.endings row.ends values ≡ ending_of other.endings row'.ends values
  pub tags : row.tags ≡ row'.tags
  pub retag : row.retag ≡ row'.retag

-- such are the first rows that are left of two sides, and they ask nothing of a field and those behind it
pub record AreFirstAlike (field : Field) (one other : Side) (row row' : Option Row) : Type 0 where
  pub r : Row
  pub r' : Row
  pub first : row ≡ Some r
  pub first' : row' ≡ Some r'
  pub nothing : asks_nothing r field ≡ true
  pub nothing' : asks_nothing r' field ≡ true
  pub seen : AreSeenAlike one other r r'

-- so both sides see frames alike; or of three the one between as another does
abbrev pub IsSilent : List Side → List ℕ → Field → Type 0
IsSilent [] places field = ⊥
IsSilent (one ∷ []) places field = ⊥
IsSilent (before ∷ after ∷ []) places field =
    AreFirstAlike field before after (first_left (before ∷ after ∷ []) places 0) (first_left (before ∷ after ∷ []) places 1)
IsSilent (before ∷ here ∷ after ∷ rest) places field =
    AreFirstAlike field here before (first_left (before ∷ here ∷ after ∷ rest) places 1) (first_left (before ∷ here ∷ after ∷ rest) places 0)
    ⊎ AreFirstAlike field here after (first_left (before ∷ here ∷ after ∷ rest) places 1) (first_left (before ∷ here ∷ after ∷ rest) places 2)

-- the row at a place is one of the configuration between, and of this use
abbrev pub is_used_at : List Side → Use → ℕ → Bool
is_used_at sides used place = is_of sides 1 place && test_at (λ row. same_use row.used used) false (rows_of_all sides) place

-- a use is looked for, and these are the places of its rows among those that are left
pub record AreSought (sides : List Side) (wanted : Option Use) (left sought : List ℕ) : Type 0 where
  pub used : Use
  pub is : wanted ≡ Some used
  pub three : length sides ≡ 3
  pub places : sought ≡ filter (is_used_at sides used) left

-- no row that is left is one of the use that is looked for
pub record IsNotSought (sides : List Side) (wanted : Option Use) (places : List ℕ) : Type 0 where
  pub used : Use
  pub is : wanted ≡ Some used
  pub three : length sides ≡ 3
  pub none : list_any (is_used_at sides used) places ≡ false

-- of some rows each, up to the first that asks nothing of a field and those behind it: by it and by a row of another side frames end and leave alike
abbrev pub AreAlikeUntil : Field → Side → Side → Row → List Row → Type 0
AreAlikeUntil field here other row [] = Unit {0}
AreAlikeUntil field here other row (row' ∷ rest) =
    AreSeenAlike here other row row' × (asks_nothing row' field ≡ false → AreAlikeUntil field here other row rest)

-- such are the rows that are left of a side, for each row of the one between at some places
abbrev pub AreAllAlike : List Side → List Row → List ℕ → List ℕ → Field → ℕ → Side → Side → Type 0
AreAllAlike sides rows left sought field n here other =
    All (λ place. (row : Row) → slice_get rows place ≡ Some row → AreAlikeUntil field here other row (rows_at rows (filter (is_of sides n) left))) sought

-- the one before, or the one after, sees all frames as the one between does, of which it may use the rows at some places
abbrev pub IsQuiet : List Side → List Row → List ℕ → List ℕ → Field → Type 0
IsQuiet [] rows left sought field = ⊥
IsQuiet (one ∷ []) rows left sought field = ⊥
IsQuiet (one ∷ other ∷ []) rows left sought field = ⊥
IsQuiet (before ∷ here ∷ after ∷ rest) rows left sought field =
    AreAllAlike (before ∷ here ∷ after ∷ rest) rows left sought field 0 here before
    ⊎ AreAllAlike (before ∷ here ∷ after ∷ rest) rows left sought field 2 here after
