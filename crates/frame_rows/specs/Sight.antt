-- What is seen of a frame: with which GEM port and which bytes it leaves, or the reason to drop it (ITU-T G.988, clauses 9.3.13, 9.3.10,
-- 9.2.4 and 9.2.3).
use Rattle.std.specs.Prelude.{◌≡◌, ◌<◌, ℕ, ◌+◌, ◌*◌, ◌%◌, ◌^◌, Bool, true, false, ◌&&◌, ◌||◌, ◌==◌, not, List, [], ◌∷◌, ◌++◌, All, Option, Some, None, IsTrue, drop, max, take}
use Rattle.std.specs.List.{flat_map}
use Rattle.tag_view.specs.Tag.{TagFields, tag_bytes}
use Rattle.tag_view.specs.Frame.{frame_bytes}
use Rattle.vlan_rule.specs.declared.settings.TableSettings.{TableSettings}
use Rattle.treatment.specs.Treatment.{additions_from, left_of}
use Rattle.mib_state.specs.Entities.{Entities}
use Rattle.frame_meaning.specs.declared.reason.Reason.{Reason}
use Rattle.frame_meaning.specs.declared.reason.Reason.TheVariants.{NoMapper}
use Rattle.frame_meaning.specs.declared.verdict.Verdict.{Verdict}
use Rattle.frame_meaning.specs.declared.verdict.Verdict.TheVariants.{Forward, Drop}
use Rattle.frame_meaning.specs.Meaning.{meaning}
use Rattle.frame_meaning.specs.Reason.{number_of_reason}
use Rattle.frame_rows.specs.declared.class.Ending.{Ending}
use Rattle.frame_rows.specs.declared.class.Ending.TheVariants.{Gem, Dropped}
use Rattle.frame_rows.specs.declared.field.Field.TheVariants.{FirstType, SecondType, FirstVid, SecondVid, FirstPriority, SecondPriority, FirstEligible, SecondEligible}
use Rattle.frame_rows.specs.declared.field.Values.{Values}
use Rattle.frame_rows.specs.declared.row.Row.{Row}
use Rattle.frame_rows.specs.Field.{value_at, values_of}
use Rattle.frame_rows.specs.Source.{dscp_behind}
use Rattle.frame_rows.specs.Row.{ending_of, first_row}
use Rattle.frame_rows.specs.Rows.{Mean, endings_at, rows_of, settings_at}
use Rattle.frame_rows.specs.Fits.{row_fits}

-- ---- what is seen

pub data Sight : Type 0 where
  Leaves : ℕ → List ℕ → Sight
  Lost : Reason → Sight

abbrev pub sight_by : Verdict → Sight
sight_by (Forward gem frame) = Leaves gem (frame_bytes frame)
sight_by (Drop reason) = Lost reason

-- of a frame that comes in at a port
unfoldable pub sight_of : Entities → ℕ → List ℕ → Sight
sight_of e port bytes = sight_by (meaning e port bytes)

-- two are alike where both leave by one GEM port with the same bytes, or both are dropped, for whatever reasons
abbrev pub IsLike : Sight → Sight → Type 0
IsLike (Leaves gem bytes) (Leaves gem' bytes') = (gem ≡ gem') × (bytes ≡ bytes')
IsLike (Leaves gem bytes) (Lost reason) = ⊥
IsLike (Lost reason) (Leaves gem bytes) = ⊥
IsLike (Lost reason) (Lost reason') = Unit {0}

-- ---- the tags that a frame leaves with, by its values

-- the four bytes behind the addresses, and those behind them, as tags
abbrev pub first_slot : Values → TagFields
first_slot values =
    record {
      tpid = value_at FirstType values;
      pcp = value_at FirstPriority values % 2 ^ 3;
      dei = value_at FirstEligible values == 1;
      vid = value_at FirstVid values % 2 ^ 12;
    }

abbrev pub second_slot : Values → TagFields
second_slot values =
    record {
      tpid = value_at SecondType values;
      pcp = value_at SecondPriority values % 2 ^ 3;
      dei = value_at SecondEligible values == 1;
      vid = value_at SecondVid values % 2 ^ 12;
    }

-- so many of them, at most two
abbrev pub slots : ℕ → Values → List TagFields
slots count values = take count (first_slot values ∷ second_slot values ∷ [])

-- those that a frame leaves with by a row
abbrev pub written : TableSettings → Row → Values → List TagFields
written settings row values =
    additions_from row.retag settings (slots row.tags values) (dscp_behind row.tags values) ++ left_of row.retag.remove (slots row.tags values)

-- and the bytes behind them that stand for tags, where so many are looked at
abbrev pub leaving : TableSettings → ℕ → Row → Values → List TagFields
leaving settings count row values = written settings row values ++ drop row.tags (slots count values)

-- ---- what is seen, by rows

-- the rows of a port, and what they stand with
pub record Side : Type 0 where
  pub settings : TableSettings
  pub endings : List Ending
  pub rows : List Row

abbrev pub side_of : Entities → ℕ → Side
side_of e port = record { settings = settings_at e port; endings = endings_at e port; rows = rows_of e port }

abbrev pub sent_by : TableSettings → Row → List ℕ → List ℕ
sent_by settings row bytes = take 12 bytes ++ (flat_map tag_bytes (written settings row (values_of bytes)) ++ drop (12 + 4 * row.tags) bytes)

abbrev pub sight_by_ending : Ending → List ℕ → Sight
sight_by_ending (Gem gem) bytes = Leaves gem bytes
sight_by_ending (Dropped reason) bytes = Lost reason

abbrev pub sight_by_row : Side → Option Row → List ℕ → Sight
sight_by_row side None bytes = Lost NoMapper
sight_by_row side (Some row) bytes = sight_by_ending (ending_of side.endings row.ends (values_of bytes)) (sent_by side.settings row bytes)

-- what is seen of each frame is by the first row that asks nothing else
pub record AreSeen (e : Entities) (port : ℕ) (side : Side) : Type 0 where
  pub sight : (bytes : List ℕ) → All (λ b. b < 2 ^ 8) bytes → sight_of e port bytes ≡ sight_by_row side (first_row side.rows (values_of bytes)) bytes

-- ---- two sides

abbrev pub same_flag : Bool → Bool → Bool
same_flag true flag = flag
same_flag false flag = not flag

abbrev pub same_tag : TagFields → TagFields → Bool
same_tag one other = (one.tpid == other.tpid && one.pcp == other.pcp) && (same_flag one.dei other.dei && one.vid == other.vid)

abbrev pub same_tags : List TagFields → List TagFields → Bool
same_tags [] [] = true
same_tags [] (tag ∷ rest) = false
same_tags (tag ∷ rest) [] = false
same_tags (tag ∷ rest) (tag' ∷ rest') = same_tag tag tag' && same_tags rest rest'

-- the bytes differ with which frames of two rows leave
abbrev pub tags_apart : Side → Side → Values → Row → Row → Bool
tags_apart one other values row row' =
    let count = max row.tags row'.tags in not (same_tags (leaving one.settings count row values) (leaving other.settings count row' values))

-- two endings differ; of two drops the reasons count, or they don't
abbrev pub endings_apart : Bool → Ending → Ending → Bool → Bool
endings_apart reasons (Gem gem) (Gem gem') apart = not (gem == gem') || apart
endings_apart reasons (Gem gem) (Dropped reason) apart = true
endings_apart reasons (Dropped reason) (Gem gem) apart = true
endings_apart reasons (Dropped reason) (Dropped reason') apart = reasons && not (number_of_reason reason == number_of_reason reason')

abbrev pub rows_apart : Bool → Side → Side → Values → Option Row → Option Row → Bool
rows_apart reasons one other values (Some row) (Some row') =
    endings_apart reasons (ending_of one.endings row.ends values) (ending_of other.endings row'.ends values) (tags_apart one other values row row')
rows_apart reasons one other values (Some row) None = false
rows_apart reasons one other values None row = false

abbrev pub seen_apart : Bool → Side → Side → Values → Bool
seen_apart reasons one other values = rows_apart reasons one other values (first_row one.rows values) (first_row other.rows values)

-- two sides' sights of each frame differ where its values say so
pub record AreSeenApart (e f : Entities) (port : ℕ) (one other : Side) : Type 0 where
  pub same : (bytes : List ℕ) → All (λ b. b < 2 ^ 8) bytes → seen_apart true one other (values_of bytes) ≡ false → sight_of e port bytes ≡ sight_of f port bytes
  pub apart : (bytes : List ℕ) → All (λ b. b < 2 ^ 8) bytes → seen_apart true one other (values_of bytes) ≡ true → sight_of e port bytes ≡ sight_of f port bytes → ⊥
  pub like : (bytes : List ℕ) → All (λ b. b < 2 ^ 8) bytes → seen_apart false one other (values_of bytes) ≡ false → IsLike (sight_of e port bytes) (sight_of f port bytes)
  pub unlike : (bytes : List ℕ) → All (λ b. b < 2 ^ 8) bytes → seen_apart false one other (values_of bytes) ≡ true → IsLike (sight_of e port bytes) (sight_of f port bytes) → ⊥

-- ---- law

-- a side of the rows of a port, by their meaning and what they ask and write
pub record IsSide (e : Entities) (port : ℕ) (side : Side) : Type 0 where
  pub seen : AreSeen e port side
  pub mean : Mean e port side.endings side.rows
  pub fit : All (λ row. IsTrue (row_fits side.settings.input_tpid row)) side.rows
  pub output : side.settings.output_tpid < 2 ^ 16

-- the values of a frame say whether its sights by two sides differ
pub record ValuesTellApart : Type 0 where
  pub tell : (e f : Entities) (port : ℕ) (one other : Side) → IsSide e port one → IsSide f port other → AreSeenApart e f port one other
