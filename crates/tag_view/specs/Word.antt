-- A VLAN tag (IEEE 802.1Q, 9.6) as one number of 32 bits: its four bytes, read with the highest first.
use Rattle.std.specs.Prelude.{ℕ, ◌+◌, ◌*◌, ◌/◌, ◌%◌, ◌^◌, ◌==◌}
use Rattle.tag_view.specs.Tag.{TagFields, control_of}

-- from the highest bit: the type, then the tag control information
abbrev pub word_of : TagFields → ℕ
word_of tag = tag.tpid * 2 ^ 16 + control_of tag

-- the tag that a word is
abbrev pub tag_of : ℕ → TagFields
tag_of word = record { tpid = word / 2 ^ 16; pcp = word / 2 ^ 13 % 2 ^ 3; dei = word / 2 ^ 12 % 2 == 1; vid = word % 2 ^ 12 }
