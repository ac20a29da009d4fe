-- The capture of the frames that are dropped: a section header, the interface that stands for the port, and a packet for each frame as it
-- came in.
use Rattle.std.specs.Prelude.{ℕ, List, [], ◌++◌}
use Rattle.frame_meaning.specs.declared.verdict.Verdict.{Verdict}
use Rattle.frame_meaning.specs.declared.verdict.Verdict.TheVariants.{Forward, Drop}
use Rattle.bench_capture.specs.Recorded.{Recorded}
use Rattle.bench_forward.specs.Blocks.{packet_block, port_block, section_block}
use Rattle.bench_forward.specs.Comments.{dropped_comment}

-- what stands before all frames
unfoldable pub drops_header : ℕ → List ℕ
drops_header port = section_block ++ port_block port

-- what is written of the frame of this number: nothing where it leaves
abbrev pub dropped_by : ℕ → Recorded → Verdict → List ℕ
dropped_by n frame (Forward gem out) = []
dropped_by n frame (Drop reason) = packet_block 0 frame.time frame.original frame.bytes (dropped_comment n reason)
