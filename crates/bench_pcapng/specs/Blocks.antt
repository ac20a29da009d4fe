-- Where a block ends. A block: its type, its length, its body, and its length again. Its length counts all of these, and is a
-- multiple of four.
use Rattle.std.specs.Prelude.{ℕ, ◌-◌, ◌%◌, ◌||◌, not, List, Option, Some, None, if◌then◌else◌, ◌==◌, nat_lt, length, take, drop}
use Rattle.bench_pcapng.specs.Numbers.{number_in}
use Rattle.bench_pcapng.specs.declared.order.Order.{Order}
use Rattle.bench_pcapng.specs.declared.order.Order.TheVariants.{HighFirst, LowFirst}

-- the type of a section header block, the bytes 0a 0d 0d 0a, which are the same number in either order
abbrev pub section_kind : ℕ
section_kind = 0x0a0d0d0a

-- the byte order that the mark of a section header shows
abbrev pub order_by_mark : ℕ → Option Order
order_by_mark mark =
    if mark == 0x1a2b3c4d then Some HighFirst else (if mark == 0x4d3c2b1a then Some LowFirst else None)

-- the byte order that the first block is written in: that of the section, but a section header shows its own by the mark that its
-- body begins with
unfoldable pub order_of_block : Order → List ℕ → Option Order
order_of_block order bytes =
    if number_in 4 order bytes == section_kind then order_by_mark (number_in 4 HighFirst (drop 8 bytes)) else Some order

-- the length of a first block that is written in this order, None where it isn't whole: its length is under 12, no multiple of four,
-- beyond the end of the bytes, or not the one that stands at the end of the block
abbrev pub length_in : Option Order → List ℕ → Option ℕ
length_in None bytes = None
length_in (Some order) bytes =
    let total = number_in 4 order (drop 4 bytes) in
    if nat_lt total 12 || not (total % 4 == 0) || nat_lt (length bytes) total then None
    else (if number_in 4 order (drop (total - 4) bytes) == total then Some total else None)

-- the length of the first block, None where it isn't whole
unfoldable pub whole_length : Order → List ℕ → Option ℕ
whole_length order bytes = if nat_lt (length bytes) 12 then None else length_in (order_of_block order bytes) bytes

-- how many bytes from here on show whether the first block is whole; more of them don't change that
abbrev pub wanted_in : Option Order → List ℕ → ℕ
wanted_in None bytes = 12
wanted_in (Some order) bytes =
    let total = number_in 4 order (drop 4 bytes) in
    if total % 4 == 0 then total else 12

unfoldable pub wanted_length : Order → List ℕ → ℕ
wanted_length order bytes = if nat_lt (length bytes) 12 then 12 else wanted_in (order_of_block order bytes) bytes

-- the type and the body of a first block that has this length
abbrev pub kind_of : Order → List ℕ → ℕ
kind_of order bytes = number_in 4 order bytes

abbrev pub body_of : ℕ → List ℕ → List ℕ
body_of total bytes = take (total - 12) (drop 8 bytes)
