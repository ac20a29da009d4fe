-- Why there is no list of frames.
use Rattle.std.specs.Prelude.{◌≡◌, ℕ, List, Some, None, Ok, Err}
use Rattle.capture.specs.Records.{capture_of, first_fault}
use Rattle.capture.specs.declared.order.Order.{Order}
use Rattle.capture.specs.declared.listed.ListFault.{ListFault}
use Rattle.capture.specs.declared.listed.ListFault.TheVariants.{Capture, NoMemory}

-- the records have this fault first; or none, where memory is wanting
abbrev pub IsWhyNoFrames : Order → List ℕ → ListFault → Type 0
IsWhyNoFrames order records (Capture fault) = first_fault order records ≡ Some fault
IsWhyNoFrames order records NoMemory = first_fault order records ≡ None

-- the file has this fault; or it is a capture, where memory is wanting
abbrev pub IsWhyNoList : List ℕ → ListFault → Type 0
IsWhyNoList file (Capture fault) = capture_of file ≡ Err fault
IsWhyNoList file NoMemory = (frames : List (List ℕ)) × (capture_of file ≡ Ok frames)
