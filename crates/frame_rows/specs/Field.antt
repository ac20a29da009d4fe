-- The fields of a frame that count for its class, and their values. Bytes are counted from 0.
use Rattle.std.specs.Prelude.{ℕ, ◌+◌, ◌/◌, ◌%◌, ◌^◌, List, [], ◌∷◌, if◌then◌else◌, length, min, nat_lt, slice_index, slice_set}
use Rattle.tag_view.specs.Frame.{type_at}
use Rattle.frame_rows.specs.declared.field.Field.{Field}
use Rattle.frame_rows.specs.declared.field.Field.TheVariants.{Length, FirstType, SecondType, ThirdType, FirstVid, SecondVid, ThirdVid, FirstPriority, SecondPriority, FirstEligible, SecondEligible}
use Rattle.frame_rows.specs.declared.field.Values.{Values}

-- all fields, in the order in which frames are told apart by them
abbrev pub fields : List Field
fields =
    Length ∷ FirstType ∷ SecondType ∷ ThirdType ∷ FirstVid ∷ SecondVid ∷ ThirdVid ∷ FirstPriority ∷ SecondPriority ∷ FirstEligible
    ∷ SecondEligible ∷ []

-- where a field stands among them
abbrev pub place_of : Field → ℕ
place_of Length = 0
place_of FirstType = 1
place_of SecondType = 2
place_of ThirdType = 3
place_of FirstVid = 4
place_of SecondVid = 5
place_of ThirdVid = 6
place_of FirstPriority = 7
place_of SecondPriority = 8
place_of FirstEligible = 9
place_of SecondEligible = 10

-- the least length of a frame that has the field
abbrev pub end_of : Field → ℕ
end_of Length = 0
end_of FirstType = 14
end_of SecondType = 18
end_of ThirdType = 22
end_of FirstVid = 16
end_of SecondVid = 20
end_of ThirdVid = 24
end_of FirstPriority = 16
end_of SecondPriority = 20
end_of FirstEligible = 16
end_of SecondEligible = 20

-- the type behind so many tags
abbrev pub type_behind : ℕ → Field
type_behind tags = if nat_lt tags 1 then FirstType else (if nat_lt tags 2 then SecondType else ThirdType)

-- the VID, or the same bits, in the two bytes behind that
abbrev pub vid_behind : ℕ → Field
vid_behind tags = if nat_lt tags 1 then FirstVid else (if nat_lt tags 2 then SecondVid else ThirdVid)

-- ---- values

abbrev pub value_at : Field → Values → ℕ
value_at field values = slice_index values.values (place_of field)

-- the same with another value of a field
abbrev pub with_value : Field → ℕ → Values → Values
with_value field value values = record { values = slice_set values.values (place_of field) value }

-- nothing of a frame lies behind so many bytes that counts
abbrev pub counted_length : ℕ
counted_length = 24

-- the two bytes from a place, or 0 where the frame is too short
abbrev pub word_at : ℕ → List ℕ → ℕ
word_at place bytes = if nat_lt (length bytes) (place + 2) then 0 else type_at place bytes

-- the values of a frame
unfoldable pub values_of : List ℕ → Values
values_of bytes =
    record {
      values =
          min counted_length (length bytes) ∷ word_at 12 bytes ∷ word_at 16 bytes ∷ word_at 20 bytes
          ∷ word_at 14 bytes % 2 ^ 12 ∷ word_at 18 bytes % 2 ^ 12 ∷ word_at 22 bytes % 2 ^ 12
          ∷ word_at 14 bytes / 2 ^ 13 ∷ word_at 18 bytes / 2 ^ 13
          ∷ word_at 14 bytes / 2 ^ 12 % 2 ∷ word_at 18 bytes / 2 ^ 12 % 2 ∷ [];
    }
