-- What a Get of an instance is answered (ITU-T G.988, annex A).
use Rattle.std.specs.Prelude.{ℕ, suc, ◌+◌, ◌-◌, ◌*◌, not, ◌&&◌, List, [], ◌∷◌, ◌++◌, if◌then◌else◌, ◌==◌, nat_le, length}
use Rattle.byteorder.specs.Endian.{big_bytes}
use Rattle.managed_entity.specs.declared.attribute.Attribute.{Attribute}
use Rattle.managed_entity.specs.Answer.{padded, success_code, partial_code}
use Rattle.managed_entity.specs.Class.{is_table}
use Rattle.managed_entity.specs.Mask.{bit_of, names, unknown_of}

-- what a Get gathers: the mask of what is returned, that of what doesn't fit, and the bytes of what is returned
pub record Gathered : Type 0 where
  pub returned : ℕ
  pub left_out : ℕ
  pub bytes : List ℕ

-- in ascending order, each named attribute that fits in what is left of the room, in bytes
abbrev pub gathered : ℕ → ℕ → ℕ → List (List ℕ) → Gathered
gathered mask place room [] = record { returned = 0; left_out = 0; bytes = [] }
gathered mask place room (v ∷ values) =
    if not (names mask place) then gathered mask (suc place) room values
    else (if nat_le (length v) room
    then (let rest = gathered mask (suc place) (room - length v) values in
    record rest { returned = bit_of place + rest.returned; bytes = v ++ rest.bytes })
    else (let rest = gathered mask (suc place) room values in record rest { left_out = bit_of place + rest.left_out }))

-- what is returned of each attribute: of the table its size in bytes, in four bytes
abbrev pub returned_values : List Attribute → List (List ℕ) → List (List ℕ) → List (List ℕ)
returned_values [] values entries = []
returned_values (a ∷ rest) [] entries = []
returned_values (a ∷ rest) (v ∷ values) entries =
    (if is_table a.access then big_bytes 4 (16 * length entries) else v) ∷ returned_values rest values entries

-- the answer to a Get of an instance of so many attributes: the result, the mask of what is returned, its 25 bytes, the
-- optional-attribute mask of what is unknown, and the attribute execution mask of what doesn't fit
unfoldable pub get_contents : ℕ → ℕ → List (List ℕ) → List ℕ
get_contents count mask values =
    let got = gathered mask 0 25 values in
    let unknown = unknown_of mask count in
    (if unknown == 0 && got.left_out == 0 then success_code else partial_code)
    ∷ big_bytes 2 got.returned ++ padded 25 got.bytes ++ big_bytes 2 unknown ++ big_bytes 2 got.left_out
