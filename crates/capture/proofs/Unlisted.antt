-- Why a file gives no list of frames.
use Rattle.std.proofs.Common.{◌≡◌, ℕ, List, drop, refl}
use Rattle.std.specs.Prelude.{Ok}
use Rattle.capture.specs.Listed.{IsWhyNoFrames, IsWhyNoList}
use Rattle.capture.specs.Records.{capture_of, frames_in, header_of}
use Rattle.capture.specs.declared.listed.ListFault.{ListFault}
use Rattle.capture.specs.declared.listed.ListFault.TheVariants.{Capture, NoMemory}
use Rattle.capture.specs.declared.order.Order.{Order}

-- it is why its records give none
pub why_no_list : (file : List ℕ) (order : Order) (fault : ListFault) → header_of file ≡ Ok order → IsWhyNoFrames order (drop 24 file) fault → IsWhyNoList file fault
unfolding capture_of
why_no_list file order (Capture fault) header is = rw (header, is) refl
why_no_list file order NoMemory header is = (frames_in order (drop 24 file), rw (header, is) refl)
