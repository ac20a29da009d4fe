-- Worked examples, computed.
use Rattle.std.proofs.Common.{◌≡◌, ℕ, List, [], ◌∷◌, ◌++◌, take, Ok, Err, refl}
use Rattle.capture.specs.declared.fault.CaptureFault.TheVariants.{Magic, Header, Link, Torn, TooLong}
use Rattle.capture.specs.Records.{capture_of, first_fault, frames_in}

frame : List ℕ
frame = 2 ∷ 0 ∷ 0 ∷ 0 ∷ 0 ∷ 1 ∷ 2 ∷ 0 ∷ 0 ∷ 0 ∷ 0 ∷ 2 ∷ 0x08 ∷ 0x00 ∷ 0x45 ∷ 0x00 ∷ []

-- a header with this link type, written with the lowest byte first
header : ℕ → List ℕ
header link = 0xd4 ∷ 0xc3 ∷ 0xb2 ∷ 0xa1 ∷ 2 ∷ 0 ∷ 4 ∷ 0 ∷ 0 ∷ 0 ∷ 0 ∷ 0 ∷ 0 ∷ 0 ∷ 0 ∷ 0 ∷ 0 ∷ 0 ∷ 4 ∷ 0 ∷ link ∷ 0 ∷ 0 ∷ 0 ∷ []

-- what stands before the stored bytes of a record of this length, in three bytes
front : ℕ → ℕ → ℕ → List ℕ
front low middle high = 0 ∷ 0 ∷ 0 ∷ 0 ∷ 0 ∷ 0 ∷ 0 ∷ 0 ∷ low ∷ middle ∷ high ∷ 0 ∷ 16 ∷ 0 ∷ 0 ∷ 0 ∷ []

low_first : capture_of (header 1 ++ front 16 0 0 ++ frame) ≡ Ok (frame ∷ [])
unfolding capture_of first_fault frames_in frame header front
low_first = refl

-- an empty record is a frame
with_empty : capture_of (header 1 ++ front 0 0 0 ++ front 1 0 0 ++ 7 ∷ []) ≡ Ok ([] ∷ (7 ∷ []) ∷ [])
unfolding capture_of first_fault frames_in header front
with_empty = refl

without_records : capture_of (header 1) ≡ Ok []
unfolding capture_of first_fault frames_in header
without_records = refl

cut_magic : capture_of (take 3 (header 1)) ≡ Err Magic
unfolding capture_of header
cut_magic = refl

cut_header : capture_of (take 23 (header 1)) ≡ Err Header
unfolding capture_of header
cut_header = refl

other_link : capture_of (header 113) ≡ Err (Link 113)
unfolding capture_of header
other_link = refl

cut_frame : capture_of (header 1 ++ front 16 0 0 ++ take 15 frame) ≡ Err (Torn 0)
unfolding capture_of first_fault frames_in frame header front
cut_frame = refl

too_long : capture_of (header 1 ++ front 0 0 0 ++ front 1 0 4) ≡ Err (TooLong 1)
unfolding capture_of first_fault frames_in header front
too_long = refl
