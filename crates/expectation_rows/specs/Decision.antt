-- Three lists of rows that decide an expectation: those of the port, those of the filter between, and that of no frame behind.
use Rattle.std.specs.Prelude.{◌≡◌, ◌<◌, ◌≤◌, ◌^◌, ℕ, Bool, true, false, not, ◌&&◌, ◌==◌, List, [], ◌∷◌, All, Some, None, IsTrue, if◌then◌else◌, length, map}
use Rattle.tag_view.specs.Frame.{Reading}
use Rattle.mib_state.specs.Entities.{Entities}
use Rattle.frame_meaning.specs.declared.verdict.Verdict.TheVariants.{Forward, Drop}
use Rattle.frame_rows.specs.declared.class.Ending.{Ending}
use Rattle.frame_rows.specs.declared.class.Ending.TheVariants.{Gem, Dropped}
use Rattle.frame_rows.specs.declared.class.FrameClass.{FrameClass}
use Rattle.frame_rows.specs.declared.class.Use.TheVariants.{Entry}
use Rattle.frame_rows.specs.declared.field.Values.{Values}
use Rattle.frame_rows.specs.declared.rows.Rows.{Rows}
use Rattle.frame_rows.specs.Class.{class_of}
use Rattle.frame_rows.specs.Field.{values_of}
use Rattle.frame_rows.specs.Fits.{row_fits}
use Rattle.frame_rows.specs.declared.row.Row.{Row}
use Rattle.frame_rows.specs.Row.{class_by, keep}
use Rattle.frame_rows.specs.Rows.{IsMarked}
use Rattle.frame_rows.specs.Sight.{Side, seen_apart}
use Rattle.frame_expectation.specs.declared.expectation.Expectation.{Expectation}
use Rattle.frame_expectation.specs.declared.wanted.WantedEnding.{WantedEnding}
use Rattle.frame_expectation.specs.declared.wanted.WantedTreatment.{WantedTreatment}
use Rattle.frame_expectation.specs.declared.wanted.WantedTreatment.TheVariants as treatment
use Rattle.frame_expectation.specs.Expectation.{admits, meets}
use Rattle.frame_expectation.specs.Wanted.{ends_as}

-- ---- endings

-- for how a frame ends it counts nothing of what leaves
abbrev pub any_frame : Reading
any_frame = record { addresses = []; tags = []; rest = [] }

abbrev pub gem_wanted : WantedEnding → ℕ → Bool
gem_wanted wanted gem = ends_as wanted (Forward gem any_frame)

-- GEM port 0 in place of each that is wanted, and 1 in place of each other
abbrev pub marked : WantedEnding → Ending → Ending
marked wanted (Gem gem) = Gem (if gem_wanted wanted gem then 0 else 1)
marked wanted (Dropped reason) = Dropped reason

-- an ending that is marked so is wanted
abbrev pub is_wanted : WantedEnding → Ending → Bool
is_wanted wanted (Gem gem) = gem == 0
is_wanted wanted (Dropped reason) = ends_as wanted (Drop reason)

abbrev pub is_any : WantedTreatment → Bool
is_any treatment.Any = true
is_any treatment.Unchanged = false
is_any (treatment.Retag wanted) = false

-- a frame that the rows between see otherwise than the others, and that ends so by the first, fails the expectation
abbrev pub is_failing : Expectation → Ending → Bool
is_failing expected ending = not (is_any expected.treatment && is_wanted expected.ending ending)

-- ---- rows of the port

-- a row as if its frames left as they came
abbrev pub plain : Row → Row
plain row = record row { retag = keep; marking = None }

-- where any bytes are wanted it doesn't count which ones rows write
abbrev pub counted_rows : WantedTreatment → List Row → List Row
counted_rows treatment.Any rows = map plain rows
counted_rows treatment.Unchanged rows = rows
counted_rows (treatment.Retag wanted) rows = rows

-- ---- three lists of rows

-- some rows and what they stand with
abbrev pub side_of : Rows → Side
side_of rows = record { settings = rows.settings; endings = rows.endings; rows = rows.rows.items }

-- the rows between see frames with these values otherwise than those before and those after; of drops the reasons don't count
abbrev pub is_shown : Side → Side → Side → Values → Bool
is_shown before here after values = seen_apart false here before values && seen_apart false here after values

-- what the rows ask and write is what rows of a port may, and they are as few
pub record AreRows (side : Side) : Type 0 where
  pub fit : All (λ row. IsTrue (row_fits side.settings.input_tpid row)) side.rows
  pub marked : All (IsMarked side.settings) side.rows
  pub few : length side.rows ≤ 134

-- the classes that frames with these values have by each
pub record HaveClasses (before here after : Side) (values : Values) : Type 0 where
  pub earlier : FrameClass
  pub between : FrameClass
  pub later : FrameClass
  pub by_before : class_by before.endings before.rows values ≡ Some earlier
  pub by_here : class_by here.endings here.rows values ≡ Some between
  pub by_after : class_by after.endings after.rows values ≡ Some later

-- a frame of bytes is admitted, meets the expectation, and has its class, as its values say
pub record IsDecided (e : Entities) (expected : Expectation) (before here after : Side) (bytes : List ℕ) : Type 0 where
  pub classes : HaveClasses before here after (values_of bytes)
  -- it is seen otherwise than by no row exactly where it is admitted
  pub admitted : is_shown after here after (values_of bytes) ≡ admits e expected bytes
  -- admitted frames alone have this use
  pub used : admits e expected bytes ≡ true → classes.between.used ≡ Entry 0
  -- each admitted one that doesn't meet the expectation is shown
  pub unmet : admits e expected bytes ≡ true → meets e expected bytes ≡ false → is_shown before here after (values_of bytes) ≡ true
  -- and of each that is shown its ending says whether it does
  pub failing : admits e expected bytes ≡ true → is_shown before here after (values_of bytes) ≡ true
      → is_failing expected classes.earlier.ending ≡ not (meets e expected bytes)
  -- the port uses for it what the first rows say
  pub class : classes.earlier.used ≡ (class_of e expected.port bytes).used

pub record Decide (e : Entities) (expected : Expectation) (before here after : Side) : Type 0 where
  pub first : AreRows before
  pub second : AreRows here
  pub third : AreRows after
  pub frames : (bytes : List ℕ) → All (λ b. b < 2 ^ 8) bytes → IsDecided e expected before here after bytes
