-- How many frames of a capture were cut when they were taken: a record says behind the number of bytes that it stores how many the
-- frame had.
use Rattle.std.specs.Prelude.{ℕ, zero, suc, ◌+◌, Bool, List, Result, Ok, Err, ◌-◌, ◌^◌, if◌then◌else◌, is_some, length, min, nat_lt, drop}
use Rattle.capture.specs.Numbers.{number_in}
use Rattle.capture.specs.Records.{behind_first, header_of, record_fault, stored_length}
use Rattle.capture.specs.declared.fault.CaptureFault.{CaptureFault}
use Rattle.capture.specs.declared.order.Order.{Order}

-- how many bytes the frame of the first record had
abbrev pub original_length : Order → List ℕ → ℕ
original_length order record_bytes = number_in order (drop 12 record_bytes)

-- whether the first record stores fewer
abbrev pub is_cut : Order → List ℕ → Bool
is_cut order bytes = nat_lt (stored_length order bytes) (original_length order bytes)

-- those of the whole records that the bytes begin with, so many at most
abbrev pub cut_in : ℕ → Order → List ℕ → ℕ
cut_in zero order bytes = 0
cut_in (suc most) order bytes =
    if is_some (record_fault order bytes) then 0
    else (if is_cut order bytes then 1 else 0) + cut_in most order (behind_first order bytes)

-- all of them: no record is without bytes, so there are never more than bytes
unfoldable pub all_cut_in : Order → List ℕ → ℕ
all_cut_in order bytes = cut_in (length bytes) order bytes

-- as a number of 64 bits
unfoldable pub counted : ℕ → ℕ
counted n = min n (2 ^ 64 - 1)

-- those behind a header
abbrev pub cut_behind : Result Order CaptureFault → List ℕ → ℕ
cut_behind (Err fault) bytes = 0
cut_behind (Ok order) bytes = all_cut_in order bytes

-- those of a file, up to its first fault
abbrev pub cut_frames_of : List ℕ → ℕ
cut_frames_of file = cut_behind (header_of file) (drop 24 file)
