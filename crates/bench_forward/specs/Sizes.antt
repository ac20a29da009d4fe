-- How large a frame that leaves may be: as large as a slice with the tags that are added.
use Rattle.std.specs.Prelude.{◌≤◌, ◌<◌, ◌+◌, ◌^◌, length}
use Rattle.tag_view.specs.Frame.{Reading, frame_bytes}
use Rattle.frame_meaning.specs.declared.verdict.Verdict.{Verdict}
use Rattle.frame_meaning.specs.declared.verdict.Verdict.TheVariants.{Forward, Drop}

pub record IsFitting (frame : Reading) : Type 0 where
  pub addresses : length frame.addresses ≤ 12
  pub few : length (frame_bytes frame) < 2 ^ 63 + 64

abbrev pub FitsPacket : Verdict → Type 0
FitsPacket (Forward gem frame) = IsFitting frame
FitsPacket (Drop reason) = Unit {0}
