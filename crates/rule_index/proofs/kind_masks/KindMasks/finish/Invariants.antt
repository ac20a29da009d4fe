use Rattle.std.proofs.Common.{◌≡◌, ◌<◌, ℕ, get_or}
use Rattle.rule_index.specs.Kinds.{joined_kind}
use Rattle.rule_index.proofs.kind_masks.KindMasks.finish.Given as goal

abbrev pub invariant-loop-k : goal.invariant-loop-k
invariant-loop-k l = record {
  tags : l.self.tags ≡ l.initial.self.tags;
  types : l.self.types ≡ l.initial.self.types;
  done : (j : ℕ) → j < l.k → get_or l.self.joined j 0 ≡ joined_kind l.initial.self.tags l.initial.self.types j;
}
