use Rattle.std.proofs.Common.{◌∙◌, arith}
use Rattle.rule_index.proofs.Joined.{kind-mask}
use Rattle.rule_index.proofs.kind_masks.KindMasks.finish.Goals as goal

pub returns-clause-kinds : goal.returns-clause-kinds
returns-clause-kinds c = λ rows of_tags of_types k h.
    c.loop-k.invariant.done k (omega (arith, h))
    ∙ kind-mask c.args.self.now.tags c.args.self.now.types rows k (omega arith) (omega arith) h of_tags of_types
