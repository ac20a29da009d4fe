use Rattle.std.proofs.lemmas.List.{append-nil}
use Rattle.mib_state.specs.Step.{part_contents}
use Rattle.mib_state.proofs.Parts.{padded_front}
use Rattle.mib_state.proofs.latch.part_contents.Goals as goal

pub returns : goal.returns
unfolding part_contents
returns c = rw (c.write_u16.ensures, c.copy_from_slice.ensures.after, c.padded.ensures, padded_front 29 _ c.args.bytes.now c.min-end.ensures, append-nil)
