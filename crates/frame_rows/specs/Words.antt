-- The values that fields can have, and the words of a frame by its values.
use Rattle.std.specs.Prelude.{ℕ, ◌+◌, ◌*◌, ◌%◌, ◌^◌, List, [], ◌∷◌, if◌then◌else◌, ◌==◌}
use Rattle.frame_rows.specs.declared.field.Field.{Field}
use Rattle.frame_rows.specs.declared.field.Field.TheVariants.{Length, FirstType, SecondType, ThirdType, FirstVid, SecondVid, ThirdVid, FirstPriority, SecondPriority, FirstEligible, SecondEligible}
use Rattle.frame_rows.specs.declared.field.Values.{Values}
use Rattle.frame_rows.specs.declared.source.Packet.{Packet}
use Rattle.frame_rows.specs.declared.source.Packet.TheVariants.{Ipv4, Ipv6, Other}
use Rattle.frame_rows.specs.Field.{value_at}
use Rattle.frame_rows.specs.Source.{packet_of}

-- the values of a field are below this
abbrev pub limit_of : Field → ℕ
limit_of Length = 25
limit_of FirstType = 2 ^ 16
limit_of SecondType = 2 ^ 16
limit_of ThirdType = 2 ^ 16
limit_of FirstVid = 2 ^ 12
limit_of SecondVid = 2 ^ 12
limit_of ThirdVid = 2 ^ 12
limit_of FirstPriority = 2 ^ 3
limit_of SecondPriority = 2 ^ 3
limit_of FirstEligible = 2
limit_of SecondEligible = 2

-- the type behind which a field of two bytes stands
abbrev pub type_before : Field → Field
type_before FirstVid = FirstType
type_before FirstPriority = FirstType
type_before SecondVid = SecondType
type_before SecondPriority = SecondType
type_before _ = ThirdType

abbrev pub packet_before : Field → Values → Packet
packet_before field values = packet_of (value_at (type_before field) values)

-- the four bits with which a packet begins, in a word of sixteen
abbrev pub first_bits : Packet → ℕ
first_bits Ipv4 = 0x4000
first_bits Ipv6 = 0x6000
first_bits Other = 0

-- the two bytes with this priority, this drop eligible indicator and this VID
abbrev pub control_by : Field → Field → Field → Values → ℕ
control_by priority eligible vid values =
    value_at priority values % 2 ^ 3 * 2 ^ 13 + (if value_at eligible values == 1 then 1 else 0) * 2 ^ 12 + value_at vid values % 2 ^ 12

-- the six words from byte 12 on
abbrev pub words_by : Values → List ℕ
words_by values =
    value_at FirstType values ∷ control_by FirstPriority FirstEligible FirstVid values
    ∷ value_at SecondType values ∷ control_by SecondPriority SecondEligible SecondVid values
    ∷ value_at ThirdType values ∷ (first_bits (packet_before ThirdVid values) + value_at ThirdVid values % 2 ^ 12) ∷ []
