use Rattle.std.proofs.Common.{◌≡◌, ◌<◌, ◌%◌, ℕ, get_or}
use Rattle.rule_index.specs.Codes.{joined_code}
use Rattle.rule_index.proofs.code_masks.CodeMasks.finish.Given as goal

abbrev pub invariant-loop-low : goal.invariant-loop-low
invariant-loop-low l = record {
  priorities : l.self.priorities ≡ l.initial.self.priorities;
  tpids : l.self.tpids ≡ l.initial.self.tpids;
  done : (k : ℕ) → (k < 64) × (k % 16 < l.low) → get_or l.self.codes k 0 ≡ joined_code l.initial.self.priorities l.initial.self.tpids k;
}
