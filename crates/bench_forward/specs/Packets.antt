-- The capture of the frames that leave: a section header, and a packet for each frame, whose interface stands for its GEM port.
-- An interface is described ahead of its first packet, and interfaces are numbered as they come.
use Rattle.std.specs.Prelude.{ℕ, ◌==◌, List, [], ◌∷◌, ◌++◌, Option, Some, None, length}
use Rattle.std.specs.List.{position}
use Rattle.bench_forward.specs.Blocks.{interface_block, packet_block, section_block}
use Rattle.bench_forward.specs.Comments.{leaving_comment}

-- a frame that leaves: its number, the GEM port, the time of its record in nanoseconds, and its bytes
pub record Leaving : Type 0 where
  pub number : ℕ
  pub gem : ℕ
  pub time : ℕ
  pub bytes : List ℕ

-- the number of a GEM port's interface, where these GEM ports have one, in the order of their numbers
abbrev pub interface_of : ℕ → List ℕ → Option ℕ
interface_of gem gems = position (λ other. other == gem) gems

-- the GEM ports that have an interface once one of them has one that had one before, or had none
abbrev pub with_found : ℕ → List ℕ → Option ℕ → List ℕ
with_found gem gems (Some number) = gems
with_found gem gems None = gems ++ gem ∷ []

abbrev pub with_interface : List ℕ → ℕ → List ℕ
with_interface gems gem = with_found gem gems (interface_of gem gems)

-- its packet, of an interface: all of its bytes are stored
abbrev pub packet_of : ℕ → Leaving → List ℕ
packet_of interface frame = packet_block interface frame.time (length frame.bytes) frame.bytes (leaving_comment frame.number)

-- what is written of a frame whose GEM port has this interface, or has none yet
abbrev pub blocks_by : List ℕ → Leaving → Option ℕ → List ℕ
blocks_by gems frame (Some number) = packet_of number frame
blocks_by gems frame None = interface_block frame.gem ++ packet_of (length gems) frame

unfoldable pub blocks_of : List ℕ → Leaving → List ℕ
blocks_of gems frame = blocks_by gems frame (interface_of frame.gem gems)

-- the GEM ports that have an interface behind frames, where these have one before them
abbrev pub gems_behind : List ℕ → List Leaving → List ℕ
gems_behind gems [] = gems
gems_behind gems (frame ∷ frames) = gems_behind (with_interface gems frame.gem) frames

-- what is written of frames, where these GEM ports have an interface
abbrev pub blocks_from : List ℕ → List Leaving → List ℕ
blocks_from gems [] = []
blocks_from gems (frame ∷ frames) = blocks_of gems frame ++ blocks_from (with_interface gems frame.gem) frames

-- the whole file
unfoldable pub packet_file : List Leaving → List ℕ
packet_file frames = section_block ++ blocks_from [] frames
