-- Attribute masks (ITU-T G.988, annex A): 16 bits, the highest of them for attribute 1.
use Rattle.std.specs.Prelude.{ℕ, suc, ◌+◌, ◌-◌, ◌/◌, ◌%◌, ◌^◌, Bool, ◌&&◌, ◌==◌, List, [], ◌∷◌, if◌then◌else◌}
use Rattle.byteorder.specs.Endian.{big_number}
use Rattle.managed_entity.specs.declared.attribute.Attribute.{Attribute}
use Rattle.managed_entity.specs.Class.{is_set_by_create, is_read_only}

-- the bit of the attribute at a place
abbrev pub bit_of : ℕ → ℕ
bit_of place = 2 ^ (15 - place)

-- whether a mask names the attribute at a place
abbrev pub names : ℕ → ℕ → Bool
names mask place = mask / bit_of place % 2 == 1

-- what a mask names beyond so many attributes
abbrev pub unknown_of : ℕ → ℕ → ℕ
unknown_of mask count = mask % 2 ^ (16 - count)

-- the mask of the attributes, from a place on, that are given at Create
abbrev pub given_mask : ℕ → List Attribute → ℕ
given_mask place [] = 0
given_mask place (a ∷ rest) = (if is_set_by_create a.access then bit_of place else 0) + given_mask (suc place) rest

-- those that a mask names and that are read only
abbrev pub unwritable_of : ℕ → ℕ → List Attribute → ℕ
unwritable_of mask place [] = 0
unwritable_of mask place (a ∷ rest) = (if names mask place && is_read_only a.access then bit_of place else 0) + unwritable_of mask (suc place) rest

-- the number of bytes of those that a mask names
abbrev pub named_width : ℕ → ℕ → List Attribute → ℕ
named_width mask place [] = 0
named_width mask place (a ∷ rest) = (if names mask place then a.width else 0) + named_width mask (suc place) rest

-- the mask of a Get or a Set: its first two bytes
unfoldable pub mask_of : List ℕ → ℕ
mask_of contents = big_number 2 contents
