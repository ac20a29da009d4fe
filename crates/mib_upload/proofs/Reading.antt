-- One attribute after another: what reading attribute n, or finding none, does to what is left.
use Rattle.std.proofs.Common.{◌≡◌, ℕ, zero, suc, ◌+◌, ◌-◌, ◌^◌, ◌<◌, ◌≤◌, true, false, List, ◌∷◌, ◌++◌, length, Bool, Option, Some, None, slice_get, refl, ◌∙◌, arith, add-one, pow-suc}
use Rattle.std.specs.Prelude.{All, if◌then◌else◌}
use Rattle.std.proofs.lemmas.List.Elements.{All-cons}
use Rattle.managed_entity.specs.declared.attribute.Attribute.{Attribute}
use Rattle.managed_entity.specs.Class.{attributes_of, table_at, width_at}
use Rattle.managed_entity.specs.Instance.{Instance, attribute_of}
use Rattle.mib_upload.specs.Rows.{Numbered, RowFields, row_room, attributes, attributes_from, FitsRow, AllFit, begun_row, instance_rows, filled_from}
use Rattle.mib_upload.specs.Room.{rows_by, widths_from, instance_room}
use Rattle.mib_upload.proofs.Bounds.{rows_by_without, rows_by_some}

-- ---- the bits of the numbers

-- the bit of a number is half of that before it
pub bit_before : (n : ℕ) → n ≤ 16 → 2 ^ (17 - n) ≡ 2 ^ (16 - n) + 2 ^ (16 - n)
bit_before n h = let e : 17 - n ≡ suc (16 - n) = omega arith in rw e (omega (arith, pow-suc 2 (16 - n)))

-- ---- a table has no bytes

not_table : (t : Bool) (o : Option (List ℕ)) (bytes : List ℕ) → (if t then None else o) ≡ Some bytes → t ≡ false
not_table true o bytes h = cc
not_table false o bytes h = refl

no_table : (layout : List Attribute) (i : Instance) (n : ℕ) (bytes : List ℕ) → attribute_of layout n (Some i) ≡ Some bytes → table_at layout (n - 1) ≡ false
no_table layout i zero bytes h = cc
no_table layout i (suc place) bytes h =
    let e : suc place - 1 ≡ place = omega arith in
    rw e (not_table (table_at layout place) (slice_get i.values place) bytes h)

-- ---- the attributes from number n to 16

module _ (layout : List Attribute) (i : Instance) (n : ℕ) (last : n ≤ 16) where
  left_over : 17 - n ≡ suc (17 - (n + 1))
  left_over = omega arith

  attributes_some : (bytes : List ℕ) → attribute_of layout n (Some i) ≡ Some bytes
      → attributes_from layout (Some i) n (17 - n) ≡ record { number = n; bytes = bytes } ∷ attributes_from layout (Some i) (n + 1) (17 - (n + 1))
  attributes_some bytes h = rw (left_over, h, add-one) refl

  attributes_none : attribute_of layout n (Some i) ≡ None → attributes_from layout (Some i) n (17 - n) ≡ attributes_from layout (Some i) (n + 1) (17 - (n + 1))
  attributes_none h = rw (left_over, h, add-one) refl

  widths_some : (bytes : List ℕ) → attribute_of layout n (Some i) ≡ Some bytes → length bytes ≡ width_at layout (n - 1)
      → widths_from layout n (17 - n) ≡ length bytes ∷ widths_from layout (n + 1) (17 - (n + 1))
  widths_some bytes h width = rw (left_over, no_table layout i n bytes h, width, add-one) refl

  widths_none : (begun : ℕ) → rows_by begun (widths_from layout (n + 1) (17 - (n + 1))) ≤ rows_by begun (widths_from layout n (17 - n))
  widths_none begun =
      let rest = widths_from layout (suc n) (17 - suc n) in
      rw (left_over, add-one) (elim (table_at layout (n - 1)) as (λ (t : Bool). rows_by begun rest ≤ rows_by begun (if t then rest else width_at layout (n - 1) ∷ rest)) [
        | true ↦ omega arith
        | false ↦ rows_by_without begun (width_at layout (n - 1)) rest
      ])

-- ---- what the loop over the numbers keeps

-- the rows so far and those of what is left are all, what is left has room, so have the bits that are left, and what was
-- read fits a row
pub record Keeps (class : ℕ) (i : Instance) (initial : List RowFields) (n : ℕ) (rows : List RowFields) (row : RowFields) : Type 0 where
  pub all : rows ++ filled_from row (attributes_from (attributes_of class) (Some i) n (17 - n)) ≡ initial ++ instance_rows class i
  pub room : length rows + rows_by (length row.values) (widths_from (attributes_of class) n (17 - n)) ≤ length initial + instance_room class
  pub bits : row.mask + 2 ^ (17 - n) ≤ 2 ^ 16
  pub each : All FitsRow (attributes_from (attributes_of class) (Some i) n (17 - n)) → AllFit class i

pub keeps_first : (class : ℕ) (i : Instance) (initial : List RowFields) → Keeps class i initial 1 initial (begun_row class i.number)
unfolding instance_room attributes
keeps_first class i initial = record { all = refl; room = omega arith; bits = omega arith; each = λ all. all }

module _ (class : ℕ) (i : Instance) (initial : List RowFields) (n : ℕ) (rows : List RowFields) (row : RowFields)
    (kept : Keeps class i initial n rows row) where
  -- there is room for the begun row
  pub one_more : length rows < length initial + instance_room class
  one_more = omega (arith, kept.room, rows_by_some (length row.values) (widths_from (attributes_of class) n (17 - n)))

  pub keeps_none : n ≤ 16 → attribute_of (attributes_of class) n (Some i) ≡ None → Keeps class i initial (n + 1) rows row
  keeps_none last h = record {
    all = rw (← attributes_none (attributes_of class) i n last h) kept.all;
    room = omega (arith, kept.room, widths_none (attributes_of class) i n last (length row.values));
    bits = let e : 17 - (n + 1) ≡ 16 - n = omega arith in rw e (omega (arith, kept.bits, bit_before n last));
    each = λ rest. kept.each (rw (attributes_none (attributes_of class) i n last h) rest);
  }

  pub keeps_some : n ≤ 16 → (bytes : List ℕ) → attribute_of (attributes_of class) n (Some i) ≡ Some bytes → length bytes ≡ width_at (attributes_of class) (n - 1)
      → (rows' : List RowFields) (row' : RowFields)
      → ((rest : List Numbered) → rows' ++ filled_from row' rest ≡ rows ++ filled_from row (record { number = n; bytes = bytes } ∷ rest))
      → ((widths : List ℕ) → length rows' + rows_by (length row'.values) widths ≡ length rows + rows_by (length row.values) (length bytes ∷ widths))
      → row'.mask + 2 ^ (16 - n) ≤ 2 ^ 16
      → length bytes ≤ row_room
      → Keeps class i initial (n + 1) rows' row'
  keeps_some last bytes h width rows' row' grown longer mask fits = record {
    all = grown _ ∙ rw (attributes_some (attributes_of class) i n last bytes h) at kept.all;
    room = omega (arith, longer (widths_from (attributes_of class) (n + 1) (17 - (n + 1))), rw (widths_some (attributes_of class) i n last bytes h width) at kept.room);
    bits = let e : 17 - (n + 1) ≡ 16 - n = omega arith in rw e mask;
    each = λ rest. kept.each (rw (attributes_some (attributes_of class) i n last bytes h) (All-cons FitsRow (record { number = n; bytes = bytes }) _ fits rest));
  }
