use Rattle.std.proofs.Common.{◌≡◌, ◌*◌}
use Rattle.std.specs.Prelude.{filter, nat_le}
use Rattle.frame_classes.proofs.left.Left.next_from_word.Given as goal

-- no place stands in the words that were looked at
abbrev pub invariant-loop-word : goal.invariant-loop-word
invariant-loop-word l = filter (nat_le (l.first * 64)) l.self ≡ filter (nat_le (l.word * 64)) l.self
