-- How large a frame that leaves is.
use Rattle.std.specs.Prelude.{ℕ, ◌+◌, ◌≤◌, List, length}
use Rattle.tag_view.specs.Frame.{Reading, frame_bytes}
use Rattle.frame_meaning.specs.declared.verdict.Verdict.{Verdict}
use Rattle.frame_meaning.specs.declared.verdict.Verdict.TheVariants.{Forward, Drop}

-- a frame that leaves came with a whole type, and has at most four tags' bytes more than it came with
pub record GrowsLittle (bytes : List ℕ) (frame : Reading) : Type 0 where
  pub whole : 14 ≤ length bytes
  pub little : length (frame_bytes frame) ≤ length bytes + 16

abbrev pub LeavesLittleMore : List ℕ → Verdict → Type 0
LeavesLittleMore bytes (Forward gem frame) = GrowsLittle bytes frame
LeavesLittleMore bytes (Drop reason) = Unit {0}
