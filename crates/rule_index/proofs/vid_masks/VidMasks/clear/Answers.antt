use Rattle.std.proofs.Common.{arith}
use Rattle.std.proofs.lemmas.Grind.{common_steps}
use Rattle.rule_index.proofs.Naming.{naming-none}
use Rattle.rule_index.proofs.vid_masks.VidMasks.clear.Goals as goal

pub returns-clause-naming : goal.returns-clause-naming
returns-clause-naming c =
    naming-none c.fill.new.self.items _ (λ v h. grind (arith, common_steps, c.fill.ensures.items)) (grind (arith, common_steps))
