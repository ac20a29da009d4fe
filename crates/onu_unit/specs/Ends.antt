-- How a frame that leaves stands in the bytes that it came in as.
use Rattle.std.specs.Prelude.{◌≡◌, ℕ, ◌-◌, List, length, take, drop}
use Rattle.tag_view.specs.Frame.{Reading}
use Rattle.frame_meaning.specs.declared.verdict.Verdict.{Verdict}
use Rattle.frame_meaning.specs.declared.verdict.Verdict.TheVariants.{Forward, Drop}

-- its addresses are the first twelve bytes, and its rest is as many of the last ones as it has
pub record HasEnds (bytes : List ℕ) (frame : Reading) : Type 0 where
  pub addresses : frame.addresses ≡ take 12 bytes
  pub rest : frame.rest ≡ drop (length bytes - length frame.rest) bytes

-- so is a frame that leaves
abbrev pub KeepsEnds : List ℕ → Verdict → Type 0
KeepsEnds bytes (Forward gem frame) = HasEnds bytes frame
KeepsEnds bytes (Drop reason) = Unit {0}
