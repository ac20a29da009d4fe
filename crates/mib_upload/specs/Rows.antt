-- The rows of a MIB upload (ITU-T G.988, 9.1.3 and annex A).
use Rattle.std.specs.Prelude.{ℕ, zero, suc, ◌≡◌, ◌<◌, ◌≤◌, ◌⊎◌, ◌+◌, ◌-◌, ◌^◌, ◌==◌, nat_le, List, [], ◌∷◌, ◌++◌, Option, Some, None, if◌then◌else◌, All, length, map}
use Rattle.std.specs.List.{flat_map, sum_by}
use Rattle.omci_msg.specs.declared.Request.{Request}
use Rattle.managed_entity.specs.declared.attribute.Attribute.{Attribute}
use Rattle.managed_entity.specs.Class.{attributes_of}
use Rattle.mib_state.specs.Entities.{Entities, instances_of}
use Rattle.mib_state.specs.After.{after}
use Rattle.mib_state.specs.Held.{Entity, of_class}
use Rattle.managed_entity.specs.Instance.{Instance, attribute_of}

-- ---- the attributes of an instance

-- an attribute of an instance: its number, from 1, and its bytes
pub record Numbered : Type 0 where
  pub number : ℕ
  pub bytes : List ℕ

-- attribute n, if it has bytes, before others
abbrev pub numbered : ℕ → Option (List ℕ) → List Numbered → List Numbered
numbered n None rest = rest
numbered n (Some bytes) rest = record { number = n; bytes = bytes } ∷ rest

-- so many attributes from number n on: those that have bytes, which a table has not
abbrev pub attributes_from : List Attribute → Option Instance → ℕ → ℕ → List Numbered
attributes_from layout i n zero = []
attributes_from layout i n (suc count) = numbered n (attribute_of layout n i) (attributes_from layout i (suc n) count)

-- the attributes of an instance but the table, in ascending order; there are at most sixteen, as a mask has bits for
unfoldable pub attributes : ℕ → Instance → List Numbered
attributes class i = attributes_from (attributes_of class) (Some i) 1 16

-- ---- the rows of an instance

-- a row: the class and the number of its instance, the mask of its attributes, and their bytes joined
pub record RowFields : Type 0 where
  pub class : ℕ
  pub instance : ℕ
  pub mask : ℕ
  pub values : List ℕ

-- the bit of an attribute in a mask
abbrev pub bit_of : Numbered → ℕ
bit_of a = 2 ^ (16 - a.number)

-- the bytes of attributes, joined
abbrev pub bytes_of : List Numbered → List ℕ
bytes_of part = flat_map (λ a. a.bytes) part

-- the row of some attributes of an instance
abbrev pub row_of : ℕ → ℕ → List Numbered → RowFields
row_of class number part = record { class = class; instance = number; mask = sum_by bit_of part; values = bytes_of part }

-- the most bytes that a row holds
abbrev pub row_room : ℕ
row_room = 26

-- a row is neither empty nor too long
pub record IsFilled (part : List Numbered) : Type 0 where
  pub not_empty : 0 < length part
  pub fits : length (bytes_of part) ≤ row_room

-- the number of bytes of the first attribute
abbrev pub first_width : List Numbered → ℕ
first_width [] = 0
first_width (a ∷ rest) = length a.bytes

-- the first attribute of each later row would not have fitted the row before
abbrev pub BeginWhereFull : List (List Numbered) → Type 0
BeginWhereFull [] = Unit {0}
BeginWhereFull (part ∷ []) = Unit {0}
BeginWhereFull (part ∷ next ∷ rest) = (row_room < length (bytes_of part) + first_width next) × BeginWhereFull (next ∷ rest)

-- attributes are parted into rows: joined, the rows have each of them once and in order
pub record IsParted (all : List Numbered) (parts : List (List Numbered)) : Type 0 where
  pub joined : flat_map (λ part. part) parts ≡ all
  pub filled : All IsFilled parts
  pub begun : BeginWhereFull parts

-- the rows of an instance of a class
pub record AreInstanceRows (class : ℕ) (i : Instance) (rows : List RowFields) : Type 0 where
  pub parts : List (List Numbered)
  pub parted : IsParted (attributes class i) parts
  pub are : rows ≡ map (row_of class i.number) parts

-- ---- the rows of the entities

-- the classes, by number
abbrev pub classes : List ℕ
classes = 2 ∷ 130 ∷ 171 ∷ 266 ∷ 268 ∷ []

-- the instances in the order of an upload: by class, and in a class as they stand, which is by number
abbrev pub in_order : Entities → List Entity
in_order e = flat_map (λ class. map (of_class class) (instances_of e class)) classes

-- rows are those of instances, one after another
abbrev pub AreRowsOfEach : List Entity → List RowFields → Type 0
AreRowsOfEach [] rows = rows ≡ []
AreRowsOfEach (entity ∷ rest) rows =
    (first : List RowFields) × (later : List RowFields) × (rows ≡ first ++ later)
    × AreInstanceRows entity.class entity.instance first × AreRowsOfEach rest later

-- the rows of the entities
abbrev pub AreRows : Entities → List RowFields → Type 0
AreRows e rows = AreRowsOfEach (in_order e) rows

-- ---- the rows, computed

-- a row of an instance before its first attribute
abbrev pub begun_row : ℕ → ℕ → RowFields
begun_row class number = record { class = class; instance = number; mask = 0; values = [] }

-- a row with one more attribute
abbrev pub with_attribute : RowFields → Numbered → RowFields
with_attribute row a = record row { mask = row.mask + bit_of a; values = row.values ++ a.bytes }

-- a row, if it has an attribute
abbrev pub ended : RowFields → List RowFields
ended row = if row.mask == 0 then [] else row ∷ []

-- the rows that a begun row and further attributes make
abbrev pub filled_from : RowFields → List Numbered → List RowFields
filled_from row [] = ended row
filled_from row (a ∷ rest) =
    if nat_le (length row.values + length a.bytes) row_room then filled_from (with_attribute row a) rest
    else row ∷ filled_from (with_attribute (begun_row row.class row.instance) a) rest

abbrev pub instance_rows : ℕ → Instance → List RowFields
instance_rows class i = filled_from (begun_row class i.number) (attributes class i)

abbrev pub class_rows : ℕ → List Instance → List RowFields
class_rows class instances = flat_map (instance_rows class) instances

unfoldable pub rows_of : Entities → List RowFields
rows_of e = flat_map (λ class. class_rows class (instances_of e class)) classes

-- ---- law

-- an attribute fits a row
abbrev pub FitsRow : Numbered → Type 0
FitsRow a = length a.bytes ≤ row_room

-- each attribute of an instance of a class does
abbrev pub AllFit : ℕ → Instance → Type 0
AllFit class i = All FitsRow (attributes class i)

-- each attribute of the entities does
abbrev pub EachFits : Entities → Type 0
EachFits e = All (λ class. All (AllFit class) (instances_of e class)) classes

-- entities whose attributes fit a row have one list of rows and no other
pub record RowsOnce : Type 0 where
  pub are : (e : Entities) → EachFits e → AreRows e (rows_of e)
  pub only : (e : Entities) (rows : List RowFields) → AreRows e rows → rows ≡ rows_of e

-- a row may stand before another: it is of a lower class, or of the class and of no higher an instance
abbrev pub MayPrecede : RowFields → RowFields → Type 0
MayPrecede row next = (row.class < next.class) ⊎ ((row.class ≡ next.class) × (row.instance ≤ next.instance))

-- rows rise by class, and in a class by instance
abbrev pub Rise : List RowFields → Type 0
Rise [] = Unit {0}
Rise (row ∷ rest) = All (MayPrecede row) rest × Rise rest

-- so do the rows after every list of requests
abbrev pub RowsRise : Type 0
RowsRise = (requests : List Request) → Rise (rows_of (after requests))
