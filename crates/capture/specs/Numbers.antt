-- The numbers of a capture, in the writer's byte order.
use Rattle.std.specs.Prelude.{ℕ, List}
use Rattle.byteorder.specs.Endian.{big_number, little_number}
use Rattle.capture.specs.declared.order.Order.{Order}
use Rattle.capture.specs.declared.order.Order.TheVariants.{HighFirst, LowFirst}

-- the number in the first four bytes
abbrev pub number_in : Order → List ℕ → ℕ
number_in HighFirst bytes = big_number 4 bytes
number_in LowFirst bytes = little_number 4 bytes
