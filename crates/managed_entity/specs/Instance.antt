-- One instance of a class of managed entities, by its attributes.
use Rattle.std.specs.Prelude.{ℕ, zero, suc, ◌-◌, List, [], Option, Some, None, if◌then◌else◌, length, slice_get, slice_index_or}
use Rattle.byteorder.specs.Endian.{big_number}
use Rattle.managed_entity.specs.declared.attribute.Attribute.{Attribute}
use Rattle.managed_entity.specs.Class.{table_at}

-- one instance of a class: its number, the bytes of each attribute in ascending order, none of the table, and the
-- table's entries
pub record Instance : Type 0 where
  pub number : ℕ
  pub values : List (List ℕ)
  pub entries : List (List ℕ)

-- an instance by its parts
abbrev pub shown_as : ℕ → List (List ℕ) → List (List ℕ) → Instance
shown_as n values entries = record { number = n; values = values; entries = entries }

-- ---- the attributes of an instance

-- the bytes of the attribute at a place; None for what isn't there and for the table
abbrev pub value_at : List Attribute → ℕ → Option Instance → Option (List ℕ)
value_at layout place None = None
value_at layout place (Some i) = if table_at layout place then None else slice_get i.values place

-- the bytes of attribute n, numbered from 1
abbrev pub attribute_of : List Attribute → ℕ → Option Instance → Option (List ℕ)
attribute_of layout zero i = None
attribute_of layout (suc place) i = value_at layout place i

-- the number that bytes spell, the highest first
abbrev pub number_of : List ℕ → ℕ
number_of bytes = big_number (length bytes) bytes

-- the bytes of attribute n of an instance, numbered from 1
abbrev pub attribute_bytes : ℕ → Instance → List ℕ
attribute_bytes n i = slice_index_or i.values (n - 1) []

-- the number that attribute n spells
abbrev pub attribute_number : ℕ → Instance → ℕ
attribute_number n i = number_of (attribute_bytes n i)
