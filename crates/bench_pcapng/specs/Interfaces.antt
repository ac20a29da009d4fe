-- The interface that a description is of. Its body: link type (2 bytes), reserved (2), snap length (4), options. An option: code (2),
-- length (2), value, padded to a multiple of four.
use Rattle.std.specs.Prelude.{ℕ, zero, suc, ◌+◌, ◌*◌, ◌/◌, List, Option, Some, None, if◌then◌else◌, ◌==◌, nat_lt, length, take, drop, slice_index, option_and_then}
use Rattle.bench_pcapng.specs.Numbers.{number_in}
use Rattle.bench_pcapng.specs.declared.interface.Interface.{Interface}
use Rattle.bench_pcapng.specs.declared.order.Order.{Order}

-- a length made a multiple of four
abbrev pub padded : ℕ → ℕ
padded size = (size + 3) / 4 * 4

-- the interface with an option: 9, if_tsresol, has one byte, and 14, if_tsoffset, has eight; where one hasn't, it is None. The others
-- change nothing.
abbrev pub with_option : Order → Interface → ℕ → List ℕ → Option Interface
with_option order plain code value =
    if code == 9 then (if length value == 1 then Some (record plain { resolution = slice_index value 0 }) else None)
    else (if code == 14 then (if length value == 8 then Some (record plain { offset = number_in 8 order value }) else None)
    else Some plain)

-- the length of the first option's value
abbrev pub option_length : Order → List ℕ → ℕ
option_length order bytes = number_in 2 order (drop 2 bytes)

-- the interface with the first option, None where its value isn't whole with its padding, or hasn't its length
unfoldable pub first_option : Order → Interface → List ℕ → Option Interface
first_option order plain bytes =
    if nat_lt (length (drop 4 bytes)) (padded (option_length order bytes)) then None
    else with_option order plain (number_in 2 order bytes) (take (option_length order bytes) (drop 4 bytes))

-- what stands behind the first option
unfoldable pub behind_option : Order → List ℕ → List ℕ
behind_option order bytes = drop (padded (option_length order bytes)) (drop 4 bytes)

-- The interface with so many options at most, from the first on; a later one counts where there are two of a kind. The option 0 ends
-- them, and so does the end of the bytes.
abbrev pub options_from : ℕ → Order → Interface → List ℕ → Option Interface
options_from zero order plain bytes = Some plain
options_from (suc most) order plain bytes =
    if length bytes == 0 then Some plain
    else (if nat_lt (length bytes) 4 then None
    else (if number_in 2 order bytes == 0 then Some plain
    else option_and_then (λ more. options_from most order more (behind_option order bytes)) (first_option order plain bytes)))

-- all of them: no option is without bytes, so there are never more than bytes
unfoldable pub options_of : Order → Interface → List ℕ → Option Interface
options_of order plain bytes = options_from (length bytes) order plain bytes

-- the interface of a description that has no options: its times are in microseconds
abbrev pub plain_of : Order → List ℕ → Interface
plain_of order body =
    record { link = number_in 2 order body; snap_length = number_in 4 order (drop 4 body); resolution = 6; offset = 0 }

-- the interface of a description
unfoldable pub interface_of : Order → List ℕ → Option Interface
interface_of order body =
    if nat_lt (length body) 8 then None else options_of order (plain_of order body) (drop 8 body)
