-- A header with a fault.
use Rattle.std.proofs.Common.{drop, sym, ◌∙◌}
use Rattle.capture.specs.Records.{header_of}
use Rattle.capture_pieces.proofs.Cuts.{counted_none}
use Rattle.capture_pieces.proofs.counting.cut_frames.Goals as goal

pub returns-in_default : goal.returns-in_default
returns-in_default c = counted_none (header_of c.args.file.now) c.in_default.field-0 (drop 24 c.args.file.now) (sym c.read_header.ensures ∙ c.in_default.is)
