-- Which frames a capture file holds, and what its first fault is. A file is a header of 24 bytes, and
-- behind it records. The header: a magic number of four bytes, version of two and two, zone, accuracy,
-- snap length, and the link type in the last four. A record: seconds, their fraction, how many bytes
-- are stored, how many the frame had, of four bytes each, and then the stored bytes.
use Rattle.std.specs.Prelude.{◌≡◌, ◌≤◌, ◌<◌, ℕ, zero, suc, ◌+◌, ◌%◌, ◌^◌, ◌||◌, List, [], ◌∷◌, ◌++◌, Option, Some, None, Result, Ok, Err, if◌then◌else◌, ◌==◌, nat_lt, is_some, length, take, drop}
use Rattle.byteorder.specs.Endian.{big_number}
use Rattle.capture.specs.Limits.{ethernet_link, stored_limit}
use Rattle.capture.specs.Numbers.{number_in}
use Rattle.capture.specs.declared.fault.CaptureFault.{CaptureFault}
use Rattle.capture.specs.declared.fault.CaptureFault.TheVariants.{Magic, Header, Link, Torn, TooLong}
use Rattle.capture.specs.declared.order.Order.{Order}
use Rattle.capture.specs.declared.order.Order.TheVariants.{HighFirst, LowFirst}
use Rattle.capture.specs.declared.record.RecordFault.{RecordFault}
use Rattle.capture.specs.declared.record.RecordFault.TheVariants as records

-- ---- the header

-- the writer's byte order, by the magic number: that of times in microseconds or nanoseconds, as it stands or swapped
abbrev pub order_of : List ℕ → Option Order
order_of file =
    let magic = big_number 4 file in
    if nat_lt (length file) 4 then None
    else (if magic == 0xa1b2c3d4 || magic == 0xa1b23c4d then Some HighFirst
    else (if magic == 0xd4c3b2a1 || magic == 0x4d3cb2a1 then Some LowFirst
    else None))

-- the low 16 bits of the link type
abbrev pub link_of : Order → List ℕ → ℕ
link_of order file = number_in order (drop 20 file) % 2 ^ 16

-- the byte order of a header whose magic number shows this one
abbrev pub header_by : Option Order → List ℕ → Result Order CaptureFault
header_by None file = Err Magic
header_by (Some order) file =
    if nat_lt (length file) 24 then Err Header
    else (if link_of order file == ethernet_link then Ok order else Err (Link (link_of order file)))

abbrev pub header_of : List ℕ → Result Order CaptureFault
header_of file = header_by (order_of file) file

-- ---- a file and its frames

-- how many bytes a record stores
abbrev pub stored_length : Order → List ℕ → ℕ
stored_length order record_bytes = number_in order (drop 8 record_bytes)

-- the bytes are these frames, each behind 16 bytes that give its length
abbrev pub AreRecords : Order → List ℕ → List (List ℕ) → Type 0
AreRecords order bytes [] = bytes ≡ []
AreRecords order bytes (frame ∷ frames) =
    (front behind : List ℕ)
    × (bytes ≡ front ++ (frame ++ behind))
    × (length front ≡ 16)
    × (stored_length order front ≡ length frame)
    × (length frame ≤ stored_limit)
    × AreRecords order behind frames

-- the file is a header and these frames
pub record IsCapture (file : List ℕ) (frames : List (List ℕ)) : Type 0 where
  pub header : List ℕ
  pub bytes : List ℕ
  pub order : Order
  pub parts : file ≡ header ++ bytes
  pub header_length : length header ≡ 24
  pub header_order : header_of header ≡ Ok order
  pub are_records : AreRecords order bytes frames

-- ---- the frames and the first fault, computed

-- why the bytes don't begin with a whole record
abbrev pub record_fault : Order → List ℕ → Option RecordFault
record_fault order bytes =
    let stored = stored_length order bytes in
    if nat_lt (length bytes) 16 then Some records.Torn
    else (if nat_lt stored_limit stored then Some records.TooLong
    else (if nat_lt (length (drop 16 bytes)) stored then Some records.Torn
    else None))

-- the frame of the first record
abbrev pub first_frame : Order → List ℕ → List ℕ
first_frame order bytes = take (stored_length order bytes) (drop 16 bytes)

-- what stands behind the first record
abbrev pub behind_first : Order → List ℕ → List ℕ
behind_first order bytes = drop (stored_length order bytes) (drop 16 bytes)

-- The frames of the whole records that the bytes begin with, so many at most.
abbrev pub frames_from : ℕ → Order → List ℕ → List (List ℕ)
frames_from zero order bytes = []
frames_from (suc most) order bytes =
    if is_some (record_fault order bytes) then []
    else first_frame order bytes ∷ frames_from most order (behind_first order bytes)

-- all of them: no record is without bytes, so there are never more than bytes
unfoldable pub frames_in : Order → List ℕ → List (List ℕ)
frames_in order bytes = frames_from (length bytes) order bytes

-- the fault of a capture whose record of this number has one
abbrev pub at_record : ℕ → RecordFault → CaptureFault
at_record n records.Torn = Torn n
at_record n records.TooLong = TooLong n

-- the fault of this record, or else that of a later one
abbrev pub or_later : ℕ → Option RecordFault → Option CaptureFault → Option CaptureFault
or_later n (Some fault) later = Some (at_record n fault)
or_later n None later = later

-- The first fault of the records, the first of which has number n. Bytes behind 4,294,967,295 records
-- are a torn one.
abbrev pub fault_from : ℕ → Order → ℕ → List ℕ → Option CaptureFault
fault_from zero order n bytes = None
fault_from (suc most) order n bytes =
    if length bytes == 0 then None
    else (if n == 4294967295 then Some (Torn n)
    else or_later n (record_fault order bytes) (fault_from most order (n + 1) (behind_first order bytes)))

unfoldable pub first_fault : Order → List ℕ → Option CaptureFault
first_fault order bytes = fault_from (length bytes) order 0 bytes

-- the frames, if there is no fault
abbrev pub or_fault : Option CaptureFault → List (List ℕ) → Result (List (List ℕ)) CaptureFault
or_fault None frames = Ok frames
or_fault (Some fault) frames = Err fault

abbrev pub frames_behind : Result Order CaptureFault → List ℕ → Result (List (List ℕ)) CaptureFault
frames_behind (Err fault) bytes = Err fault
frames_behind (Ok order) bytes = or_fault (first_fault order bytes) (frames_in order bytes)

-- the frames of a file, or its first fault
unfoldable pub capture_of : List ℕ → Result (List (List ℕ)) CaptureFault
capture_of file = frames_behind (header_of file) (drop 24 file)

-- ---- laws

-- a file that is a capture of frames is read as these, unless they are more than can be counted
pub record RecordsAreRead : Type 0 where
  pub few : (file : List ℕ) (frames : List (List ℕ)) → IsCapture file frames → length frames < 2 ^ 32 → capture_of file ≡ Ok frames
  pub many : (file : List ℕ) (frames : List (List ℕ)) → IsCapture file frames → 2 ^ 32 ≤ length frames → capture_of file ≡ Err (Torn 4294967295)
