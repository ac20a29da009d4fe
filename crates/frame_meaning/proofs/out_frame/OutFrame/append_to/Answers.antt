use Rattle.std.proofs.Common.{arith}
use Rattle.std.proofs.lemmas.Grind.{common_steps}
use Rattle.frame_meaning.proofs.Spellings.{spelled_lengths}
use Rattle.frame_meaning.proofs.out_frame.OutFrame.append_to.Goals as goal

pub each_tag-init : goal.each_tag-init
each_tag-init c = record {
  appended = grind (arith, common_steps);
  room = grind (arith, common_steps, spelled_lengths);
}
